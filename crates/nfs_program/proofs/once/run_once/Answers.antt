use Rattle.std.proofs.Common.{Err, None, arith, inl, inr, refl, rules}
use Rattle.nfs_program.proofs.once.run_once.Goals as goal
use Rattle.nfs_server.specs.declared.serve_error.ServeError.TheVariants as errors

pub returns-in_default : goal.returns-in_default
returns-in_default g c = record {
  served = (
    Err errors.Memory,
    None,
    inr (refl, refl, refl, refl),
    ((λ h. absurd cc), (λ h. absurd (omega (arith, h)))),
    ((λ h. absurd cc), (λ h. absurd (omega (arith, h)))),
    c.exit_status.ensures,
  );
}

pub returns-in_default-new : goal.returns-in_default-new
returns-in_default-new g c = record {
  served = (
    Err errors.Memory,
    None,
    inr (refl, refl, refl, refl),
    ((λ h. absurd cc), (λ h. absurd (omega (arith, h)))),
    ((λ h. absurd cc), (λ h. absurd (omega (arith, h)))),
    c.exit_status-in_default-new.ensures,
  );
}

pub returns : goal.returns
returns g c = record {
  served = (
    c.serve_duplex-outcome.result,
    c.file_journal-filed.result,
    inl (
      c.in-Ok-new.lent,
      c.at-clock.result,
      c.serve_duplex-outcome.new.service,
      c.serve_duplex-outcome.new.clock,
      search rules,
      search rules,
      search rules,
      search rules,
      search rules,
    ),
    search rules,
    search rules,
    search rules,
  );
}
