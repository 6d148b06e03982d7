use Rattle.std.proofs.Common.{◌≡◌, ◌+◌, ◌∙◌, ap, sym, refl, true, false, rules}
use Rattle.std.specs.Prelude.{◌&&◌}
use Rattle.log_page.specs.Pages.{is_next, is_whole}
use Rattle.log_blocks.specs.Reading.{is_allowed, known_pages, known_shown, used_by}
use Rattle.log_blocks.proofs.ScanLemmas.{other_of, torn_taken, torn_refused}
use Rattle.log_blocks.proofs.scan.BlockScan.take_torn.Goals as goal

pub returns-then-not-may_stand-clause-err : goal.returns-then-not-may_stand-clause-err
returns-then-not-may_stand-clause-err c first blocks made taken rest has =
    let s = c.args.self.now in
    let p = c.args.page.now in
    let stands : c.may_stand.result ≡ false = search rules in
    torn_refused first s blocks made taken has p
    (λ not. ap (λ k. is_whole k && is_next s.place s.made s.pages p) (sym c.requires.kind)
    ∙ other_of s c.args.kind p c.requires.other not)
    (ap (λ k. is_allowed k s.place s.made s.pages s.shown p) (sym c.requires.kind) ∙ sym c.may_stand.ensures ∙ stands)
    rest

pub returns-clause-ok : goal.returns-clause-ok
returns-clause-ok c first blocks made taken has =
    let s = c.args.self.now in
    let p = c.args.page.now in
    let stands : c.may_stand.result ≡ true = search rules in
    torn_taken first s blocks made taken has p
    (λ not. ap (λ k. is_whole k && is_next s.place s.made s.pages p) (sym c.requires.kind)
    ∙ other_of s c.args.kind p c.requires.other not)
    (ap (λ k. is_allowed k s.place s.made s.pages s.shown p) (sym c.requires.kind) ∙ sym c.may_stand.ensures ∙ stands)
    _ refl refl refl refl
    (c.pages_after-self.ensures ∙ ap (λ k. known_pages k s.pages p) c.requires.kind)
    (c.shown_after-self.ensures ∙ ap (λ k. known_shown k s.shown p) c.requires.kind)
    refl
    (ap (λ n. s.used + n) (c.uses.ensures.is ∙ ap used_by c.requires.kind))
