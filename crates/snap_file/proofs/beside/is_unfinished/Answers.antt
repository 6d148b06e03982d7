use Rattle.std.proofs.Common.{◌≡◌, ◌∙◌, sym, ap, take, drop, length, ◌++◌, codes, List, ℕ}
use Rattle.std.proofs.lemmas.List.{take-append-drop}
use Rattle.std.proofs.lemmas.Slice.Eq.{bytes_eq-Decides}
use Rattle.snap_file.proofs.beside.is_unfinished.Goals as goal

pub returns-in-Some : goal.returns-in-Some
returns-in-Some c = λ same.
    let path = c.args.path.now in
    let name = c.args.name.now in
    let cases = rw (c.as_bytes.ensures.value, c.as_bytes-2.ensures.value) at c.in-Some.ensures.cases in
    let front : take (length path) name ≡ path = (bytes_eq-Decides (take (length path) name) path).0 cases.0 in
    let back : c.in-Some.end.now ≡ codes ".new" = (bytes_eq-Decides c.in-Some.end.now (codes ".new")).0
    (rw (← c.as_bytes-in-Some.ensures.value) (sym c.eq.ensures ∙ same)) in
    let rest : drop (length path) name ≡ codes ".new" = sym cases.1 ∙ back in
    sym (take-append-drop (length path) name) ∙ ap (λ (l : List ℕ). l ++ drop (length path) name) front
    ∙ ap (λ (l : List ℕ). path ++ l) rest
