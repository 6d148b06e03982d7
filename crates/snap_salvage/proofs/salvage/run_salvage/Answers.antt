use Rattle.std.proofs.Common.{inl, inr, refl}
use Rattle.snap_report.specs.declared.making.MakeFault.{MakeFault}
use Rattle.snap_report.specs.declared.making.MakeFault.TheVariants.{Read}
use Rattle.snap_salvage.proofs.SalvageLemmas.{if_err, on_ok_both, passed_on}
use Rattle.snap_salvage.proofs.salvage.run_salvage.Goals as goal

pub returns-clause-made : goal.returns-clause-made
returns-clause-made g c =
    let salvage = c.in_ok-salvage.salvage in
    on_ok_both c.make_salvaged.result (λ made written. (
      salvage.snapshot,
      (
        salvage.end,
        (
          c.in_ok-left.left,
          record {
            found = c.in_ok-found.found;
            front = c.in_ok-front.front;
            from = salvage.from;
            between = c.find_front.new.log;
            loaded = c.in_ok-found.ensures.ok;
            read = c.in_ok-front.ensures.front;
            salvaged = c.in_ok-salvage.ensures.both;
            counted = c.in_ok-left.ensures.ok;
          },
          made,
          written,
        ),
      ),
    )) c.make_salvaged.ensures.made c.make_salvaged.ensures.written

pub returns-in_err-salvage-clause-reported : goal.returns-in_err-salvage-clause-reported
returns-in_err-salvage-clause-reported g c =
    passed_on c.from_residual-in_err-salvage.result _ (Read c.in_err-salvage.field-0.0)
    c.from_residual-in_err-salvage.ensures.1 (inl (record {
      why = c.in_err-salvage.field-0.0;
      fault_is = refl;
      reported = inr (inr (inl (record {
        found = c.in_ok-found.found;
        front = c.in_ok-front.front;
        loaded = c.in_ok-found.ensures.ok;
        read = c.in_ok-front.ensures.front;
        unsalvaged = c.in_err-salvage.ensures.err;
      })));
      unmade = refl;
      unwritten = refl;
    }))

pub returns-in_err-left-clause-reported : goal.returns-in_err-left-clause-reported
returns-in_err-left-clause-reported g c =
    passed_on c.from_residual-in_err-left.result _ (Read c.in_err-left.field-0.0)
    c.from_residual-in_err-left.ensures.1 (inl (record {
      why = c.in_err-left.field-0.0;
      fault_is = refl;
      reported = inr (inr (inr (record {
        found = c.in_ok-found.found;
        front = c.in_ok-front.front;
        x = c.in_ok-salvage.salvage.snapshot;
        end = c.in_ok-salvage.salvage.end;
        from = c.in_ok-salvage.salvage.from;
        between = c.find_front.new.log;
        loaded = c.in_ok-found.ensures.ok;
        read = c.in_ok-front.ensures.front;
        salvaged = c.in_ok-salvage.ensures.both;
        uncounted = c.in_err-left.ensures.err;
      })));
      unmade = refl;
      unwritten = refl;
    }))

pub returns-clause-reported : goal.returns-clause-reported
returns-clause-reported g c =
    let salvage = c.in_ok-salvage.salvage in
    if_err c.make_salvaged.result (λ (fault : MakeFault) reported. inr (record {
      x = salvage.snapshot;
      end = salvage.end;
      left = c.in_ok-left.left;
      salvaged = record {
        found = c.in_ok-found.found;
        front = c.in_ok-front.front;
        from = salvage.from;
        between = c.find_front.new.log;
        loaded = c.in_ok-found.ensures.ok;
        read = c.in_ok-front.ensures.front;
        salvaged = c.in_ok-salvage.ensures.both;
        counted = c.in_ok-left.ensures.ok;
      };
      reported = reported;
    })) c.make_salvaged.ensures.reported
