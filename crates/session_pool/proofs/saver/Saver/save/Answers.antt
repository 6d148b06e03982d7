use Rattle.std.proofs.Common.{refl}
use Rattle.batch_store.specs.Books.{accepted_in}
use Rattle.session_pool.specs.Saves.{IsSaved, of_origin}
use Rattle.session_pool.proofs.GivenLaws.{is_saved}
use Rattle.session_pool.proofs.saver.Saver.save.Goals as goal

pub returns-in-Ok-save_anew-clause-saved : goal.returns-in-Ok-save_anew-clause-saved
returns-in-Ok-save_anew-clause-saved g c =
    let a = accepted_in c.in-Ok.list in
    let e = c.in-Ok.ensures in
    let saved : IsSaved (of_origin g.R.Disk.saves c.args.self.now.origin) c.args.rt.now c.args.self.now.path g.N.Named.setup a =
    is_saved (of_origin g.R.Disk.saves c.args.self.now.origin) c.args.rt.now c.args.self.now.path c.in-Some.path c.as_str.result.now g.N.Named.setup
    g.N.Named.setup a c.in-Some.is c.as_str.ensures.value refl c.in-Ok-save_anew.ensures.saved in
    (a, e.list, e.shown, e.past, c.count_of.ensures, saved)
