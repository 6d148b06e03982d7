-- What is read of a page field by field is the head that the page says.
use Rattle.std.proofs.Common.{◌≡◌, ℕ, ◌+◌, ◌*◌, ◌^◌, ◌<◌, ◌≤◌, true, List, drop, length, refl, sym, ap, subst, ◌∙◌}
use Rattle.std.proofs.Common.{arith}
use Rattle.std.specs.Prelude.{slice_index}
use Rattle.batch_store.specs.Setups.{Setting, setting, IsSetting, FirstFails}
use Rattle.batch_store.specs.declared.fault.SetupFault.{SetupFault}
use Rattle.batch_store.specs.declared.fault.SetupFault.TheVariants.{BadDimension, BadCuts, BadShards, BadLimit}
use Rattle.batch_store.specs.declared.fault.SetupFault.TheVariants.{BadBatches}
use Rattle.snap_file.specs.Spelling.{IsBytes}
use Rattle.log_page.specs.Pages.{is_blank}
use Rattle.log_head.specs.declared.head.LogHead.{LogHead}
use Rattle.log_head.specs.Heads.{HasCheck, HasHead, HasVersion, IsHead, IsHeadIn, behind_cuts, cut_count, cuts_of, filler}
use Rattle.log_head.specs.Heads.{head_in, identity_in, version, version_in}
use Rattle.snap_file.specs.Origins.{identity, unknown}
use Rattle.snap_file.specs.declared.origin.Identity.{Identity}
use Rattle.log_head.specs.Heads.{setup_in, u32_in, u64_in}
use Rattle.log_head.proofs.Spelled.{spelled}

never_setting : (v : Setting) (fault : SetupFault) → FirstFails v fault → IsSetting v → ⊥
never_setting v BadDimension refused is = refused is.dims
never_setting v BadCuts refused is = refused.1 is.cuts
never_setting v BadShards refused is = refused.2 is.shards
never_setting v BadLimit refused is = refused.3 is.limit
never_setting v BadBatches refused is = refused.4 is.batches

module _ (p : List ℕ) (n : ℕ) (rest : List ℕ) (n_is : n ≡ cut_count p) (rest_is : rest ≡ drop (29 + 8 * n) p) where
  behind_is : rest ≡ behind_cuts p
  behind_is = rest_is ∙ ap (λ (i : ℕ). drop (29 + 8 * i) p) n_is

  pub setup_same : (rows cols shards limit most : ℕ) (cuts : List ℕ) → rows ≡ u64_in p 12 → cols ≡ u64_in p 20 →
      cuts ≡ cuts_of n (drop 29 p) → shards ≡ slice_index rest 0 → limit ≡ u64_in rest 1 → most ≡ u64_in rest 9 →
      setting rows cols cuts shards limit most ≡ setup_in p
  setup_same rows cols shards limit most cuts a b c d e f =
      let cuts_are : cuts ≡ cuts_of (cut_count p) (drop 29 p) = c ∙ ap (λ (i : ℕ). cuts_of i (drop 29 p)) n_is in
      let shards_are : shards ≡ slice_index (behind_cuts p) 0 = d ∙ ap (λ (l : List ℕ). slice_index l 0) behind_is in
      let limit_is : limit ≡ u64_in (behind_cuts p) 1 = e ∙ ap (λ (l : List ℕ). u64_in l 1) behind_is in
      let most_is : most ≡ u64_in (behind_cuts p) 9 = f ∙ ap (λ (l : List ℕ). u64_in l 9) behind_is in
      λ i. setting (a i) (b i) (cuts_are i) (shards_are i) (limit_is i) (most_is i)

  pub head_same : (s : Setting) (first total link : ℕ) (whose : Identity) → s ≡ setup_in p → first ≡ u64_in rest 17 →
      total ≡ u64_in rest 25 → link ≡ u32_in rest 33 → whose ≡ identity_in p →
      ◌≡◌ {A = LogHead} (record { setup = s; first = first; total = total; link = link; identity = whose }) (head_in p)
  head_same s first total link whose a b c d e =
      let first_is : first ≡ u64_in (behind_cuts p) 17 = b ∙ ap (λ (l : List ℕ). u64_in l 17) behind_is in
      let total_is : total ≡ u64_in (behind_cuts p) 25 = c ∙ ap (λ (l : List ℕ). u64_in l 25) behind_is in
      let link_is : link ≡ u32_in (behind_cuts p) 33 = d ∙ ap (λ (l : List ℕ). u32_in l 33) behind_is in
      λ i. record { setup = a i; first = first_is i; total = total_is i; link = link_is i; identity = e i }

pub setup_refused : (p : List ℕ) (v : Setting) (fault : SetupFault) → v ≡ setup_in p → FirstFails v fault →
    IsSetting (setup_in p) → ⊥
setup_refused p v fault same refused is = never_setting v fault refused (subst IsSetting (sym same) is)

-- a head that is out of its range
pub head_refused : (p : List ℕ) (h : LogHead) → h ≡ head_in p →
    (h.first ≤ h.setup.max_batches → h.total ≤ h.setup.limit → ⊥) → IsHead (head_in p) → ⊥
head_refused p h same refused is =
    let own : IsHead h = subst IsHead (sym same) is in
    refused own.first own.total

pub page_read : (p : List ℕ) (h : LogHead) → IsBytes p → length p ≡ 4096 → HasVersion p → h ≡ head_in p →
    IsHeadIn (version_in p) h → HasCheck p → is_blank (filler p) ≡ true → HasHead p h
page_read p h bytes len front same is check blank =
    subst (HasHead p) (sym same) (spelled p bytes len (front, subst (IsHeadIn (version_in p)) same is) check blank)
