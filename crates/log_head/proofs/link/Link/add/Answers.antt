use Rattle.std.proofs.Common.{◌∙◌, ℕ, ap}
use Rattle.crc32c.specs.Remainders.{after_bytes}
use Rattle.snap_file.specs.Spelling.{entry_bytes}
use Rattle.log_head.proofs.EncodeLemmas.{added_more}
use Rattle.log_head.proofs.link.Link.add.Goals as goal

pub returns : goal.returns
returns c = λ es has.
    added_more c.args.self.now c.add_entry.new.crc es c.args.entry.now has
    (c.add_entry.ensures ∙ ap (λ (r : ℕ). after_bytes r (entry_bytes c.args.entry.now)) c.self.view_is)
