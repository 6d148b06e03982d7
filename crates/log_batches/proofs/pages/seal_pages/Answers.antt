use Rattle.std.proofs.Common.{◌≡◌, ◌+◌, ◌-◌, ◌*◌, ◌<◌, ◌++◌, ◌∙◌, ap, sym, refl, take, drop, length, get_or, List, ℕ, arith}
use Rattle.std.proofs.lemmas.List.{drop_all}
use Rattle.log_page.specs.Pages.{page_of}
use Rattle.log_blocks.specs.Blocks.{pages_from}
use Rattle.log_blocks.specs.Files.{joined, bytes_from}
use Rattle.log_batches.specs.Payloads.{chunks_from}
use Rattle.log_batches.proofs.Chunks.{page_made, none_made, taken_chunk, same_front, shorter_front, chunk_long, sealed_length, all_made}
use Rattle.log_batches.proofs.pages.seal_pages.Goals as goal

pub pages-init : goal.pages-init
pages-init c = record {
  within = omega arith;
  long = refl;
  same = refl;
  made = drop_all (4096 * c.args.pages) c.args.out.now (omega (arith, c.requires))
      ∙ none_made c.args.place c.args.pages c.args.out.now;
}

pub seal_chunk-requires : goal.seal_chunk-requires
seal_chunk-requires c = record {
  number = omega (arith, c.pages.invariant.within);
  room = omega (arith, c.requires, c.pages.invariant.long);
}

pub pages-preserved : goal.pages-preserved
pages-preserved c =
    let old = c.pages.invariant in
    let left = c.pages.left - 1 in
    let one : c.pages.left ≡ left + 1 = omega arith in
    let chunk = take 4072 (drop (4072 * left) c.pages.out) in
    let within = old.within in let long = old.long in let size = c.requires in
    let chunk_is : chunk ≡ bytes_from (4072 * left) 4072 c.args.out.now =
    taken_chunk 4072 (4072 * left) c.pages.out c.args.out.now (omega arith)
    (λ k lt. same_front (4096 * c.pages.left) c.pages.out c.args.out.now old.same k (omega arith)) in
    let before : drop (4096 * (left + 1)) c.pages.out ≡
    joined (pages_from c.args.place (left + 1) c.args.pages
    (chunks_from (left + 1) (c.args.pages - (left + 1)) c.args.out.now)) =
    (λ i. drop (4096 * (sym one i)) c.pages.out)
    ∙ old.made
    ∙ (λ i. joined (pages_from c.args.place (one i) c.args.pages
    (chunks_from (one i) (c.args.pages - one i) c.args.out.now))) in
    record {
      within = omega arith;
      long = sealed_length c.args.place left c.args.pages chunk c.seal_chunk.new.out c.pages.out (omega arith)
          (omega arith) (omega arith) (omega arith) (chunk_long 4072 (4072 * left) c.pages.out (omega arith))
          c.seal_chunk.ensures.front c.seal_chunk.ensures.behind ∙ long;
      same = c.seal_chunk.ensures.front
          ∙ shorter_front (4096 * left) (4096 * c.pages.left) c.pages.out c.args.out.now (omega arith) old.same;
      made = page_made c.args.place left c.args.pages c.args.out.now chunk
          (drop (4096 * left) c.seal_chunk.new.out) (drop (4096 * (left + 1)) c.pages.out) (omega arith) chunk_is
          c.seal_chunk.ensures.behind before;
    }

pub returns : goal.returns
returns c =
    let none : c.pages.left ≡ 0 = omega (arith, c.pages-test.false) in
    let from : 4096 * c.pages.left ≡ 0 = omega arith in
    let all : c.args.pages - c.pages.left ≡ c.args.pages = omega arith in
    sym (ap (λ (n : ℕ). drop n c.pages.out) from)
    ∙ c.pages.invariant.made
    ∙ all_made c.args.place c.pages.left (c.args.pages - c.pages.left) c.args.pages c.args.out.now none all
