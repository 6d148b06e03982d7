use Rattle.std.proofs.Common.{◌≡◌, ◌≢◌, ◌+◌, ◌∙◌, ap, sym, refl, true, false, arith, rules}
use Rattle.std.specs.Int.{w32, to_be_bytes}
use Rattle.std.proofs.lemmas.Bool.{and_parts}
use Rattle.log_page.specs.Pages.{kind_of, pages_field, is_next, is_whole}
use Rattle.log_blocks.specs.Blocks.{can_have}
use Rattle.log_blocks.proofs.Counts.{next_pages}
use Rattle.log_blocks.proofs.ScanLemmas.{part_taken, last_taken, bad_refused, sound_is, untorn_of, whole_of}
use Rattle.log_blocks.proofs.scan.BlockScan.take_whole.Goals as goal

pub returns-then-made-pages-clause-ok : goal.returns-then-made-pages-clause-ok
returns-then-made-pages-clause-ok c first blocks made taken has =
    let s = c.args.self.now in
    let p = c.args.page.now in
    let told : c.pages_told-pages.result ≡ pages_field p = c.pages_told-pages.ensures in
    let inner : s.made + 1 ≢ pages_field p = λ is. omega arith in
    part_taken first s blocks made taken has p (untorn_of s (kind_of p) p c.requires.next)
    (whole_of s (kind_of p) p c.requires.next) c.batches_of-batches.result c.batches_of-batches.ensures.first
    c.batches_of-batches.ensures.later inner
    _ refl refl refl refl told (c.to_be_bytes-self.ensures ∙ ap (to_be_bytes w32) told) refl
    (untorn_of s (kind_of p) p c.requires.next) refl

pub can_hold-requires : goal.can_hold-requires
can_hold-requires c =
    let s = c.args.self.now in
    let p = c.args.page.now in
    let told : c.pages_told-pages.result ≡ pages_field p = c.pages_told-pages.ensures in
    let fields = next_pages s.place s.made s.pages p
    (and_parts (is_whole (kind_of p)) (is_next s.place s.made s.pages p)
    (whole_of s (kind_of p) p c.requires.next)).1 in
    omega (arith, fields.0)

pub returns-then-not-can_hold-clause-err : goal.returns-then-not-can_hold-clause-err
returns-then-not-can_hold-clause-err c first blocks made taken rest has =
    let s = c.args.self.now in
    let p = c.args.page.now in
    let told : c.pages_told-pages.result ≡ pages_field p = c.pages_told-pages.ensures in
    let fields = next_pages s.place s.made s.pages p
    (and_parts (is_whole (kind_of p)) (is_next s.place s.made s.pages p)
    (whole_of s (kind_of p) p c.requires.next)).1 in
    let all : s.made + 1 ≡ pages_field p = omega (arith, fields.0) in
    let not_held : c.can_hold.result ≡ false = search rules in
    let unsound =
    sound_is first s blocks made taken has p (untorn_of s (kind_of p) p c.requires.next)
    (whole_of s (kind_of p) p c.requires.next) c.batches_of-batches.result c.batches_of-batches.ensures.first
    c.batches_of-batches.ensures.later all
    ∙ ap (can_have c.batches_of-batches.result) (sym told) ∙ sym c.can_hold.ensures ∙ not_held in
    bad_refused first s blocks made taken has p (untorn_of s (kind_of p) p c.requires.next)
    (whole_of s (kind_of p) p c.requires.next) c.batches_of-batches.result c.batches_of-batches.ensures.first
    c.batches_of-batches.ensures.later all unsound rest

pub returns-clause-pages : goal.returns-clause-pages
returns-clause-pages c =
    let s = c.args.self.now in
    let p = c.args.page.now in
    let told : c.pages_told-pages.result ≡ pages_field p = c.pages_told-pages.ensures in
    let fields = next_pages s.place s.made s.pages p
    (and_parts (is_whole (kind_of p)) (is_next s.place s.made s.pages p)
    (whole_of s (kind_of p) p c.requires.next)).1 in
    omega (arith, fields.0)

pub returns-clause-ok : goal.returns-clause-ok
returns-clause-ok c first blocks made taken has =
    let s = c.args.self.now in
    let p = c.args.page.now in
    let told : c.pages_told-pages.result ≡ pages_field p = c.pages_told-pages.ensures in
    let fields = next_pages s.place s.made s.pages p
    (and_parts (is_whole (kind_of p)) (is_next s.place s.made s.pages p)
    (whole_of s (kind_of p) p c.requires.next)).1 in
    let all : s.made + 1 ≡ pages_field p = omega (arith, fields.0) in
    let held : c.can_hold.result ≡ true = search rules in
    let sound =
    sound_is first s blocks made taken has p (untorn_of s (kind_of p) p c.requires.next)
    (whole_of s (kind_of p) p c.requires.next) c.batches_of-batches.result c.batches_of-batches.ensures.first
    c.batches_of-batches.ensures.later all
    ∙ ap (can_have c.batches_of-batches.result) (sym told) ∙ sym c.can_hold.ensures ∙ held in
    last_taken first s blocks made taken has p (untorn_of s (kind_of p) p c.requires.next)
    (whole_of s (kind_of p) p c.requires.next) c.batches_of-batches.result c.batches_of-batches.ensures.first
    c.batches_of-batches.ensures.later all sound
    _ refl (ap (λ n. s.page + n) told) refl refl refl refl refl refl
