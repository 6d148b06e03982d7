use Rattle.std.proofs.Common.{◌≡◌, ℕ, List, [], ◌∷◌, length, arith, refl}
use Rattle.std.proofs.lemmas.Bool.Decides.{nat_tests}
use Rattle.mm_text.proofs.PiecesLemmas.{advances_none}
use Rattle.mm_text.proofs.line_reader.LineReader.take_plain_lines.Goals as goal

no_bytes : (carry : List ℕ) → length carry ≡ 0 → carry ≡ []
no_bytes [] h = refl
no_bytes (b ∷ bs) h = absurd (omega arith)

pub returns-then-is_empty-clause-ok : goal.returns-then-is_empty-clause-ok
returns-then-is_empty-clause-ok c =
    let n : length c.args.self.now.carry.items ≡ 0 = grind (arith, nat_tests, c.is_empty.ensures, c.if-is_empty.true) in
    rw (no_bytes c.args.self.now.carry.items n) c.take_entries.ensures.ok

pub returns-then-is_empty-clause-err : goal.returns-then-is_empty-clause-err
returns-then-is_empty-clause-err c =
    let n : length c.args.self.now.carry.items ≡ 0 = grind (arith, nat_tests, c.is_empty.ensures, c.if-is_empty.true) in
    rw (no_bytes c.args.self.now.carry.items n) c.take_entries.ensures.err

pub returns-then-is_empty-clause-kept : goal.returns-then-is_empty-clause-kept
returns-then-is_empty-clause-kept c =
    let n : length c.args.self.now.carry.items ≡ 0 = grind (arith, nat_tests, c.is_empty.ensures, c.if-is_empty.true) in
    rw (no_bytes c.args.self.now.carry.items n) c.take_entries.ensures.kept

pub returns-else-is_empty-clause-ok : goal.returns-else-is_empty-clause-ok
returns-else-is_empty-clause-ok c = λ limits. advances_none limits c.args.self.now.carry.items _ _ _
