use Rattle.std.proofs.Common.{inl, inr, sym, ◌∙◌, arith}
use Rattle.log_start.proofs.Reading.{as_before, if_err_map, if_ok_map, if_ok_on, read_whole, read_within, same_name}
use Rattle.log_start.proofs.read.read_source.Goals as goal

pub returns-clause-same_reference : goal.returns-clause-same_reference
returns-clause-same_reference g c =
    if_ok_on c.read_log.result c.read_log.ensures.ok (λ file read.
    same_name read.end.answers read.end.calls (λ s. s.disk.ghost_name) (λ s. s.disk.now) (λ s. s.at) (λ s. s.end)
    g.D.LogDisk
    (λ s answer t h. h))

pub returns-clause-same : goal.returns-clause-same
returns-clause-same g c = λ told.
    if_ok_on c.read_log.result c.read_log.ensures.ok (λ file read.
    as_before read.end.answers read.end.calls (λ s. s.disk.ghost_name) (λ s. s.disk.now) (λ s. s.at) (λ s. s.end)
    g.D.LogDisk
    (λ s answer t h. h) told)

pub returns-clause-ok : goal.returns-clause-ok
returns-clause-ok g c =
    if_ok_map c.read_log.result c.read_log.ensures.ok (λ file read. (
      read.bytes,
      read.end.are_bytes,
      read.end.within,
      read.holds,
      λ told long.
          sym read.end.bytes_are
          ∙ read_whole read.end.answers read.end.calls (λ s. s.disk.ghost_name) (λ s. s.disk.now) (λ s. s.at) (λ s. s.end)
          g.D.LogDisk
          (λ s answer t h. h) told c.requires.begins read.end.at_end long,
    ))

pub returns-clause-err : goal.returns-clause-err
returns-clause-err g c =
    if_err_map c.read_log.result c.read_log.ensures.err (λ fault why. elim why [
      | inl memory ↦ inl memory
      | inr (inl source) ↦ elim source.failed.why [
        | inl read ↦ inr (inl read)
        | inr long ↦ inr (inr (inl (
          long.0,
          source.page_is long.0,
          λ told.
              let most = read_within source.failed.answers source.failed.calls (λ s. s.disk.ghost_name) (λ s. s.disk.now) (λ s. s.at)
              (λ s. s.end) g.D.LogDisk (λ s answer t h. h) told c.requires.begins c.read_log.new.r.within in
              omega (arith, most, long.1),
        )))
      ]
      | inr (inr wrong) ↦ inr (inr (inr (
        wrong.bytes,
        wrong.wrong,
        λ told long.
            sym wrong.end.bytes_are
            ∙ read_whole wrong.end.answers wrong.end.calls (λ s. s.disk.ghost_name) (λ s. s.disk.now) (λ s. s.at) (λ s. s.end)
            g.D.LogDisk
            (λ s answer t h. h) told c.requires.begins wrong.end.at_end long,
      )))
    ])
