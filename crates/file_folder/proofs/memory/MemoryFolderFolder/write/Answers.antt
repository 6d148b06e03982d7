use Rattle.std.proofs.Common.{sym, ◌∙◌}
use Rattle.std.proofs.Math.Seq.{take-length}
use Rattle.file_folder.specs.Memory.{listed}
use Rattle.file_folder.proofs.MemoryLemmas.{first_has_more, on_ok}
use Rattle.file_folder.proofs.memory.MemoryFolderFolder.write.Goals as goal

pub returns-clause-takes : goal.returns-clause-takes
returns-clause-takes c =
    let same = c.is_refused.ensures.called in
    let ok = on_ok c.append_first.result _ (sym c.is_err.ensures.value ∙ c.if-is_err.false) c.append_first.ensures.ok in
    record {
      all = take-length c.args.buf.now;
      written = λ name created. rw (take-length c.args.buf.now, same)
          (first_has_more c.args.self.now.is_created (listed c.args.self.now.files.items)
          (listed c.append_first.new.files.items) c.args.buf.now (λ n f r e. ok n f r (rw same e)) name created);
    }
