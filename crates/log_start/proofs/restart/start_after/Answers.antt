use Rattle.std.proofs.Common.{rules}
use Rattle.log_start.proofs.Reading.{if_ok_map}
use Rattle.log_start.proofs.Restarts.{found_list, may_go_on}
use Rattle.log_start.proofs.restart.start_after.Goals as goal

pub start_log-requires : goal.start_log-requires
start_log-requires g c κs within = (
  search rules,
  (
    search rules,
    (
      λ tells found stored.
          let telling = (g.met.F.LogFolder.files_tell c.lose-folder.result).0 tells in
          let left = c.requires.1.1.1.1.0 telling in
          let is = c.lose-folder.ensures.left left.0 left.1 left.2 found stored in
          let d = g.F.Disk.LogDisk in (
            is.told,
            may_go_on d left.1 c.args.disk g.kept.0 g.kept.1
                (c.requires.1.1.1.0 telling) left.3 found is,
          ),
      search rules,
    ),
  ),
)

pub returns : goal.returns
returns g c = record {
  list = λ telling.
      let tells = (g.met.F.LogFolder.files_tell c.lose-folder.result).1 telling in
      let left = c.requires.1.1.1.1.0 telling in
      let d = g.F.Disk.LogDisk in
      if_ok_map c.start_log.result c.start_log.ensures.list (λ s is.
      found_list d left.1 c.args.disk g.kept.0 g.kept.1 (c.requires.1.1.1.0 telling) left.3 _ _ _ tells
      (c.lose-folder.ensures.left left.0 left.1 left.2) (c.lose-folder.ensures.named tells) _ _ _ _ _ _ is);
}
