use Rattle.std.proofs.Common.{[], ◌∙◌, sym, ap, append-nil}
use Rattle.hyper_matrix.proofs.CountLaws.{ewise_add-empty}
use Rattle.batch_store.specs.Books.{accepted_in}
use Rattle.socket_server.proofs.AnswerLaws.{list_made}
use Rattle.socket_server.proofs.file_log.start_in.Goals as goal

-- files of a folder that tells are files that tell
pub of_start-requires-clause-logged : goal.of_start-requires-clause-logged
of_start-requires-clause-logged g c =
    let told = c.in-Ok.ensures in
    let tells = g.met.F.LogFolder.files_tell c.args.folder.now in
    record {
      log = told.log.0;
      settled = λ t. (told.told (tells.1 t), told.log.2 (tells.1 t));
      lists = (let logged = told.log.1 in logged.log);
    }

-- the list is made of what was found
pub returns-in-Ok-of_start-clause-list : goal.returns-in-Ok-of_start-clause-list
returns-in-Ok-of_start-clause-list g c =
    let folder = c.args.folder.now in
    let f = g.F.LogFolder in
    let s = c.in-Ok.started in
    list_made g.F.Disk.LogDisk (f.tells folder) (f.stored folder) (f.named folder) c.args.setup.now c.args.owner.now
    c.args.known s.list (record { setup = s.setup; identity = s.identity }) c.in-Ok.ensures.list

-- the log's batches stand behind the known ones, and nothing was folded
pub returns-in-Ok-of_start-clause-later : goal.returns-in-Ok-of_start-clause-later
returns-in-Ok-of_start-clause-later g c =
    let told = c.in-Ok.ensures in
    record {
      entries = told.begins;
      past = record {
        since = [];
        base = ap (λ m. m.counts) told.base.0 ∙ sym (ewise_add-empty (accepted_in c.args.known).base);
        folded = told.base.1 ∙ sym (append-nil c.args.known.folded);
      };
    }
