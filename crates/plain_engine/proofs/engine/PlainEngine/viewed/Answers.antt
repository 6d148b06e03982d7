use Rattle.std.proofs.Common.{refl, sym, ◌∙◌, ap, subst, List}
use Rattle.hyper_matrix.specs.Matrix.{matrix}
use Rattle.batch_store.specs.Shards.{Holding}
use Rattle.plain_engine.specs.Object.{export_of}
use Rattle.plain_engine.specs.Standing.{Standing, standing, IsWhole, HaveSetup, shards_content}
use Rattle.plain_engine.proofs.StandLaws.{whole}
use Rattle.plain_engine.proofs.LookLaws.{have_setup}
use Rattle.plain_engine.proofs.ViewLaws.{show_size, sum_shown}
use Rattle.plain_engine.proofs.engine.PlainEngine.viewed.Goals as goal

pub new-requires : goal.new-requires
new-requires c =
    let inside = c.self.inside in
    let v = inside.setup in
    let made : HaveSetup v c.deref.result.now = subst (HaveSetup v) (sym c.deref.ensures.value)
    (have_setup v inside.book.state 0 inside.shards.items c.self.invariant.stand) in
    show_size v c.in_ok-views.views.items c.deref.result.now made c.in_ok-views.ensures

pub returns : goal.returns
returns c =
    let inside = c.self.inside in
    let v = inside.setup in
    let views = c.in_ok-views.views.items in
    let all : IsWhole (standing v inside.book inside.shards.items) =
    whole v inside.book inside.shards.items _ c.self.invariant refl in
    sum_shown v v views views c.deref.result.now c.new.result c.new.ensures refl refl c.in_ok-views.ensures
    ∙ ap (λ (xs : List Holding). matrix v.rows v.cols (shards_content xs)) c.deref.ensures.value
    ∙ ap (matrix v.rows v.cols) all.sums
    ∙ ap (λ (e : Standing). export_of e.setup e.book.state) c.self.view_is
