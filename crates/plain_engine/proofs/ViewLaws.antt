-- Views of shards, and what they show together.
use Rattle.std.proofs.Common.{◌≡◌, ℕ, zero, suc, ◌+◌, ◌<◌, List, [], ◌∷◌, ◌++◌, length, take, get_or, refl}
use Rattle.std.proofs.Common.{sym, ◌∙◌, ap, subst, arith}
use Rattle.std.proofs.lemmas.List.{take_more}
use Rattle.hyper_matrix.specs.Counts.{ewise_add}
use Rattle.hyper_matrix.specs.Matrix.{Matrix, matrix}
use Rattle.hyper_matrix.proofs.CountLaws.{ewise_add_assoc, ewise_add-empty}
use Rattle.layer_compaction.specs.Shared.{content}
use Rattle.layer_compaction.proofs.LayerLemmas.{empty-ewise_add}
use Rattle.batch_store.specs.Setups.{Setting}
use Rattle.batch_store.specs.Shards.{Holding, Sight, layering_of}
use Rattle.plain_engine.specs.Standing.{HaveSetup, shards_content}
use Rattle.plain_engine.specs.Views.{Show, HaveSize, sights_content}

pub show_push : (vs : List Sight) (xs : List Holding) (v : Sight) (x : Holding) → Show vs xs →
    v.layers ≡ layering_of x → Show (vs ++ v ∷ []) (xs ++ x ∷ [])
show_push [] [] v x h is = (is, tt)
show_push [] (y ∷ ys) v x h is = absurd h
show_push (w ∷ ws) [] v x h is = absurd h
show_push (w ∷ ws) (y ∷ ys) v x h is = (h.0, show_push ws ys v x h.1 is)

-- one shard more, and a view of it
pub show_more : (vs ws : List Sight) (xs : List Holding) (i : ℕ) (v : Sight) (x : Holding) → i < length xs →
    Show vs (take i xs) → ws ≡ vs ++ v ∷ [] → v.layers ≡ layering_of x → x ≡ get_or xs i x → Show ws (take (i + 1) xs)
show_more vs ws xs i v x below shown pushed seen is =
    subst (λ (us : List Sight). Show us (take (i + 1) xs)) (sym pushed)
    (subst (Show (vs ++ v ∷ [])) (sym (take_more xs i x below))
    (show_push vs (take i xs) v (get_or xs i x) shown (seen ∙ ap layering_of is)))

-- views of shards of a setup have its dimensions
pub show_size : (v : Setting) (vs : List Sight) (xs : List Holding) → HaveSetup v xs → Show vs xs →
    HaveSize v.rows v.cols vs
show_size v [] xs made h = tt
show_size v (w ∷ ws) [] made h = absurd h
show_size v (w ∷ ws) (x ∷ xs) made h = (
  ap (λ l. l.rows) h.0 ∙ ap (λ (s : Setting). s.rows) made.0,
  ap (λ l. l.cols) h.0 ∙ ap (λ (s : Setting). s.cols) made.0,
  show_size v ws xs made.1 h.1,
)

-- they show what the shards hold
pub show_content : (vs : List Sight) (xs : List Holding) → Show vs xs → sights_content vs ≡ shards_content xs
show_content [] [] h = refl
show_content [] (x ∷ xs) h = absurd h
show_content (w ∷ ws) [] h = absurd h
show_content (w ∷ ws) (x ∷ xs) h = λ i. ewise_add (content ((h.0 i).layers)) (show_content ws xs h.1 i)

sights-append : (vs ws : List Sight) → sights_content (vs ++ ws) ≡ ewise_add (sights_content vs) (sights_content ws)
sights-append [] ws = sym (empty-ewise_add (sights_content ws))
sights-append (v ∷ vs) ws =
    ap (ewise_add (content v.layers.layers)) (sights-append vs ws) ∙
    sym (ewise_add_assoc (content v.layers.layers) (sights_content vs) (sights_content ws))

-- the first views, and one more
pub sights_more : (vs : List Sight) (i : ℕ) (v : Sight) → i < length vs → v ≡ get_or vs i v
    → sights_content (take (i + 1) vs) ≡ ewise_add (sights_content (take i vs)) (content v.layers.layers)
sights_more vs i v below is =
    ap sights_content (take_more vs i v below)
    ∙ sights-append (take i vs) (get_or vs i v ∷ [])
    ∙ ap (ewise_add (sights_content (take i vs)))
    (ewise_add-empty (content ((get_or vs i v).layers.layers)) ∙ ap (λ (s : Sight). content s.layers.layers) (sym is))

-- the sum of views of shards is that of what the shards hold
pub sum_shown : (v w : Setting) (vs ws : List Sight) (xs : List Holding) (sum : Matrix) →
    sum ≡ matrix w.rows w.cols (sights_content ws) → w ≡ v → ws ≡ vs → Show vs xs →
    sum ≡ matrix v.rows v.cols (shards_content xs)
sum_shown v w vs ws xs sum is setup views shown = is ∙ (λ i. matrix (setup i).rows (setup i).cols
    (sights_content (views i))) ∙ ap (matrix v.rows v.cols) (show_content vs xs shown)

-- a view among others has their dimensions
pub size_at : (r c : ℕ) (vs : List Sight) (i : ℕ) (v : Sight) → HaveSize r c vs → i < length vs → v ≡ get_or vs i v →
    (v.layers.rows ≡ r) × (v.layers.cols ≡ c)
size_at r c [] i v h below is = absurd (omega arith)
size_at r c (w ∷ ws) zero v h below is =
    (ap (λ (s : Sight). s.layers.rows) is ∙ h.0, ap (λ (s : Sight). s.layers.cols) is ∙ h.1)
size_at r c (w ∷ ws) (suc i) v h below is = size_at r c ws i v h.2 (omega arith) is
