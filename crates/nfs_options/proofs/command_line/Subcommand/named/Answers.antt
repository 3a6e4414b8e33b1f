use Rattle.std.proofs.Common.{◌∙◌, codes, sym}
use Rattle.clap.specs.Words.{found_of}
use Rattle.clap.proofs.WalkLemmas.{first_value-rows}
use Rattle.std.specs.Prelude.{⊤}
use Rattle.nfs_options.proofs.Declining.{weaker_fault}
use Rattle.nfs_options.proofs.command_line.Subcommand.named.Goals as goal

pub returns-in-Some-clause-ok : goal.returns-in-Some-clause-ok
returns-in-Some-clause-ok c =
    rw c.in-Audit.is (sym (c.in-Some.ensures ∙ first_value-rows (found_of c.args.matches.now) (codes "file")), tt)

pub returns-in-None-clause-err : goal.returns-in-None-clause-err
returns-in-None-clause-err c =
    rw c.in-Audit.is (weaker_fault ⊤ _ (λ h. sym (c.in-None.ensures ∙ first_value-rows (found_of c.args.matches.now) (codes "file"))) _ c.without_file.ensures)
