-- One page more of a log.
use Rattle.std.proofs.Common.{◌≡◌, ◌⊎◌, ℕ, ◌+◌, List, [], ◌∷◌, ◌++◌, length}
use Rattle.std.proofs.Common.{refl, Err}
use Rattle.log_blocks.specs.declared.fault.LogFault.{LogFault}
use Rattle.std.proofs.Common.{inl, inr, sym, ap, subst, ◌∙◌, append_assoc, arith}
use Rattle.std.proofs.lemmas.List.{append-nil, length-drop}
use Rattle.std.specs.List.{AllByRecursion}
use Rattle.batch_store.specs.Setups.{Setting}
use Rattle.batch_store.specs.Batches.{values}
use Rattle.log_page.specs.Pages.{IsBytes, chunk_field}
use Rattle.log_blocks.specs.Blocks.{Page, ArePages, FillsPages, IsBlock}
use Rattle.log_blocks.specs.Blocks.{Block as Chunks}
use Rattle.log_blocks.specs.Files.{joined}
use Rattle.log_blocks.specs.Reading.{read_pages}
use Rattle.log_blocks.specs.Scanning.{HasTaken, last_begin, blocks_after, made_after}
use Rattle.log_blocks.specs.declared.scan.BlockScan.{BlockScan}
use Rattle.log_blocks.specs.declared.scan.Step.{Step}
use Rattle.log_blocks.specs.declared.scan.Step.TheVariants.{Part, Last, Torn}
use Rattle.log_blocks.specs.declared.fault.LogKind.{LogKind}
use Rattle.log_blocks.specs.declared.fault.LogKind.TheVariants.{Memory}
use Rattle.log_blocks.proofs.ScanLemmas.{scanned_all}
use Rattle.log_blocks.proofs.Sound.{read_holds}
use Rattle.log_batches.specs.Held.{HoldsBatches}
use Rattle.log_read.specs.Logs.{AreBlocks, HasFaultBehind}
use Rattle.log_read.specs.Scans.{HasCome, Keeps, Refuses}
use Rattle.log_read.specs.declared.file.Block.{Block}
use Rattle.log_read.specs.declared.scan.LogScan.{LogScan}

pub joined_push : (made : Chunks) (chunk : List ℕ) → joined (made ++ chunk ∷ []) ≡ joined made ++ chunk
joined_push [] chunk = append-nil chunk
joined_push (first ∷ made) chunk =
    ap (λ (l : List ℕ). first ++ l) (joined_push made chunk) ∙ sym (append_assoc first (joined made) chunk)

each_push : (P : List ℕ → Type 0) (xs : List (List ℕ)) (x : List ℕ) → AllByRecursion P xs → P x → AllByRecursion P
    (xs ++ x ∷ [])
each_push P [] x each one = (one, tt)
each_push P (y ∷ xs) x each one = (each.0, each_push P xs x each.1 one)

last_is : (P : Chunks → Type 0) (xs : List Chunks) (x : Chunks) → AllByRecursion P (xs ++ x ∷ []) → P x
last_is P [] x each = each.0
last_is P (y ∷ xs) x each = last_is P xs x each.1

blocks_push : (s : Setting) (page last : ℕ) (found : List Chunks) (blocks : List Block) (chunks : Chunks)
    (block : Block) →
    AreBlocks s page found blocks → block.page ≡ last_begin page last (found ++ chunks ∷ []) →
    HoldsBatches s chunks (values block.batches.items) → AreBlocks s page (found ++ chunks ∷ []) (blocks ++ block ∷ [])
blocks_push s page last [] [] chunks block are at holds = (at, holds, tt)
blocks_push s page last [] (b ∷ blocks) chunks block are at holds = absurd are
blocks_push s page last (x ∷ found) [] chunks block are at holds = absurd are
blocks_push s page last (x ∷ found) (b ∷ blocks) chunks block are at holds =
    (are.0, are.1, blocks_push s (page + length x) page found blocks chunks block are.2 at holds)

-- a block that was read whole can be one
whole_block : (first : ℕ) (scan : BlockScan) (found : List Chunks) (block made : Chunks) (pages : List Page) →
    ArePages pages → HasTaken first scan (found ++ block ∷ []) made pages → FillsPages block
whole_block first scan found block made pages are taken =
    let read = (scanned_all first scan (found ++ block ∷ []) made pages taken).read in
    let reads = read_holds first pages (found ++ block ∷ []) are read in
    (last_is IsBlock found block reads.each).fills

module _ (first : ℕ) (log new : LogScan) (pages : List Page) (page : Page) (long : length page ≡ 4096)
    (bytes : IsBytes page)
    (has : HasCome first log pages) (reader : new.reader ≡ log.reader) where
  all_pages : ArePages (pages ++ page ∷ [])
  all_pages = each_push (λ p. (length p ≡ 4096) × IsBytes p) pages page has.pages_are (long, bytes)

  chunk_long : length (chunk_field page) ≡ 4072
  chunk_long = let e = length-drop 24 page in omega arith

  -- the blocks that were read stay
  same_blocks : (blocks : List Block) → blocks ≡ log.blocks.items → AreBlocks new.reader 1 has.found blocks
  same_blocks blocks same =
      subst (λ (s : Setting). AreBlocks s 1 has.found blocks) (sym reader)
      (subst (λ (l : List Block). AreBlocks log.reader 1 has.found l) (sym same) has.blocks)

  pub come_step : (step : Step) (at : ℕ) → at ≡ new.scan.last →
      HasTaken first new.scan (blocks_after step has.found has.made page) (made_after step has.made page)
      (pages ++ page ∷ []) →
      Keeps log.reader at page log.chunks.items new.chunks.items log.blocks.items new.blocks.items step →
      HasCome first new (pages ++ page ∷ [])
  come_step Part at at_is taken keeps = record {
    found = has.found;
    made = has.made ++ chunk_field page ∷ [];
    taken = taken;
    blocks = same_blocks new.blocks.items keeps.1;
    chunks_are = joined_push has.made (chunk_field page)
        ∙ ap (λ (l : List ℕ). l ++ chunk_field page) has.chunks_are ∙ sym keeps.0;
    each = each_push (λ chunk. length chunk ≡ 4072) has.made (chunk_field page) has.each chunk_long;
    pages_are = all_pages;
  }
  come_step Torn at at_is taken keeps = record {
    found = has.found;
    made = has.made;
    taken = taken;
    blocks = same_blocks new.blocks.items keeps.1;
    chunks_are = has.chunks_are ∙ sym keeps.0;
    each = has.each;
    pages_are = all_pages;
  }
  come_step Last at at_is taken keeps =
      let block = has.made ++ chunk_field page ∷ [] in
      let fills = whole_block first new.scan has.found block [] (pages ++ page ∷ []) all_pages taken in
      let one = keeps.1 has.made has.chunks_are fills in
      record {
        found = has.found ++ block ∷ [];
        made = [];
        taken = taken;
        blocks = subst (λ (s : Setting). AreBlocks s 1 (has.found ++ block ∷ []) new.blocks.items) (sym reader)
            (subst (λ (l : List Block). AreBlocks log.reader 1 (has.found ++ block ∷ []) l) (sym one.is)
            (blocks_push log.reader 1 0 has.found log.blocks.items block one.block has.blocks
            (one.page_is ∙ at_is ∙ taken.lasts) one.holds));
        chunks_are = sym keeps.0;
        each = tt;
        pages_are = all_pages;
      }

-- a block that is read whole holds no batches
pub bad_step : (log : LogScan) (scan : BlockScan) (page : Page) → length page ≡ 4096 → IsBytes page → (step : Step)
    (kind : LogKind) (at : ℕ) → at ≡ scan.last → ((first : ℕ) (pages : List Page) (has : HasCome first log pages) →
    HasTaken first scan (blocks_after step has.found has.made page) (made_after step has.made page)
    (pages ++ page ∷ [])) →
    Refuses log.reader page log.chunks.items step kind → (kind ≡ Memory) ⊎ ((first : ℕ) (pages rest : List Page) →
    HasCome first log pages →
    HasFaultBehind log.reader first (pages ++ page ∷ rest) (record { kind = kind; page = at }))
bad_step log scan page long bytes Part kind at at_is taken refuses = inl refuses
bad_step log scan page long bytes Torn kind at at_is taken refuses = absurd refuses
bad_step log scan page long bytes Last kind at at_is taken refuses = elim refuses [
  | inl memory ↦ inl memory
  | inr bad ↦ inr (λ first pages rest has.
      let block = has.made ++ chunk_field page ∷ [] in
      let t = taken first pages has in
      let are : ArePages (pages ++ page ∷ []) =
      each_push (λ p. (length p ≡ 4096) × IsBytes p) pages page has.pages_are (long, bytes) in
      let fills = whole_block first scan has.found block [] (pages ++ page ∷ []) are t in
      inr (record {
        front = pages ++ page ∷ [];
        behind = rest;
        pages_are = sym (append_assoc pages (page ∷ []) rest);
        good = has.found;
        blocks = log.blocks.items;
        block = block;
        read = (scanned_all first scan (has.found ++ block ∷ []) [] (pages ++ page ∷ []) t).read;
        held = has.blocks;
        none = λ list holds. bad.1 has.made list has.chunks_are fills holds;
        kind_is = bad.0;
        page_is = at_is ∙ t.lasts;
      }))
]

-- the bytes of a block's chunks, once the last is kept
pub kept_bytes : (made : Chunks) (chunk old kept bytes : List ℕ) → joined made ≡ old → kept ≡ old ++ chunk → bytes ≡
    kept →
    joined (made ++ chunk ∷ []) ≡ bytes
kept_bytes made chunk old kept bytes is more same =
    joined_push made chunk ∙ ap (λ (l : List ℕ). l ++ chunk) is ∙ sym more ∙ sym same

-- a page that may not stand behind those that were taken
pub bad_page : (log : LogScan) (page : Page) (fault : LogFault) (first : ℕ) (pages rest : List Page) →
    (has : HasCome first log pages) →
    ((more : List Page) → read_pages first (pages ++ page ∷ more) ≡ Err fault) →
    HasFaultBehind log.reader first (pages ++ page ∷ rest) fault
bad_page log page fault first pages rest has refused = inl (record {
  front = pages;
  page = page;
  behind = rest;
  pages_are = refl;
  good = has.found;
  blocks = log.blocks.items;
  read = (scanned_all first log.scan has.found has.made pages has.taken).read;
  held = has.blocks;
  refused = refused;
})
