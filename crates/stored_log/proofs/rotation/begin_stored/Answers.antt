use Rattle.std.proofs.Common.{ℕ, List, subst, sym}
use Rattle.batch_store.specs.Accepted.{entries_in}
use Rattle.batch_store.specs.Books.{accepted_in}
use Rattle.open_log.specs.Rotations.{begun}
use Rattle.log_start.specs.Records.{IsLogOf}
use Rattle.stored_log.proofs.rotation.begin_stored.Goals as goal

pub new-requires-clause-logged : goal.new-requires-clause-logged
new-requires-clause-logged g c =
    let head = c.head_of-head.result in
    let is = c.head_of-head.ensures in
    let es = entries_in (accepted_in c.args.list.now) in
    let tells = g.met.F.LogFolder.files_tell c.args.folder.now in
    record {
      log = begun c.encode_head.new.page head.first;
      settled = λ t. (c.in-Ok.ensures.told (tells.1 t), c.in-Ok.ensures.settled (tells.1 t));
      lists = subst (λ (page : List ℕ). IsLogOf (begun page head.first) es) (sym c.encode_head.ensures)
          (let told = is.log in told.log);
    }
