use Rattle.std.proofs.Common.{refl}
use Rattle.batch_store.specs.Books.{accepted_in}
use Rattle.session_pool.specs.Saves.{IsSaved, of_origin}
use Rattle.session_pool.proofs.GivenLaws.{is_saved}
use Rattle.session_pool.proofs.saver.Saver.save_own.Goals as goal

pub returns-then-not-is_failed-clause-saved : goal.returns-then-not-is_failed-clause-saved
returns-then-not-is_failed-clause-saved g c =
    let a = accepted_in c.in-Ok.list in
    let e = c.in-Ok.ensures in
    let saves = of_origin g.R.Disk.saves c.args.self.now.origin in
    let saved : IsSaved saves c.args.rt.now c.args.self.now.path g.N.Named.setup a =
    is_saved saves c.args.rt.now c.args.self.now.path c.in-Some.path c.as_str-path.result.now c.setup-setup.result
    g.N.Named.setup a c.in-Some.is c.as_str-path.ensures.value c.setup-setup.ensures (c.if-has_left.ensures refl) in
    (a, e.list, e.shown, e.past, tt, saved)

pub returns-in-Ok-save_anew-clause-saved : goal.returns-in-Ok-save_anew-clause-saved
returns-in-Ok-save_anew-clause-saved g c =
    let a = accepted_in c.in-Ok.list in
    let e = c.in-Ok.ensures in
    let saves = of_origin g.R.Disk.saves c.args.self.now.origin in
    let saved : IsSaved saves c.args.rt.now c.args.self.now.path g.N.Named.setup a =
    is_saved saves c.args.rt.now c.args.self.now.path c.in-Some.path c.as_str-path.result.now g.N.Named.setup
    g.N.Named.setup a c.in-Some.is c.as_str-path.ensures.value refl c.in-Ok-save_anew.ensures.saved in
    (a, e.list, e.shown, e.past, c.count_of.ensures, saved)
