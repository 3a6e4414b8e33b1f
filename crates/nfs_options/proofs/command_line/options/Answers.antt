use Rattle.std.proofs.Common.{◌≡◌, ◌∙◌, ap, map, subst, sym, []}
use Rattle.std.proofs.lemmas.Result.{IfErr-weaker, IfOk-weaker}
use Rattle.clap.specs.Words.{HasKind, fault_of, is_simple, is_simple_and_free, subcommand_of, subcommand_rows_of}
use Rattle.nfs_options.specs.CommandLine.{AsksBy, IsMemoryOr, Lacks, program}
use Rattle.nfs_options.proofs.Declining.{bare, bare_declined, value_declined, words_declined}
use Rattle.nfs_options.proofs.command_line.options.Goals as goal

pub returns-in-Ok-clause-asked : goal.returns-in-Ok-clause-asked
returns-in-Ok-clause-asked g c =
    let words = map g.S.AsStr.text c.args.words.now in
    let made = c.in_ok-program_command.ensures in
    let passes : fault_of program words ≡ [] = sym (ap (λ a. fault_of a words) made) ∙ c.in-Ok.ensures.kinds (ap is_simple_and_free made) in
    let given : subcommand_rows_of c.in-Ok.matches ≡ subcommand_of program words =
    (c.in-Ok.ensures.matches (ap is_simple made)).1 ∙ ap (λ a. subcommand_of a words) made in
    IfOk-weaker c.of.result _ _ (λ s h. (passes, subst (λ r. AsksBy r s) given h.0)) c.of.ensures.ok

pub returns-in-Ok-clause-declined : goal.returns-in-Ok-clause-declined
returns-in-Ok-clause-declined g c =
    let words = map g.S.AsStr.text c.args.words.now in
    let made = c.in_ok-program_command.ensures in
    let passes : fault_of program words ≡ [] = sym (ap (λ a. fault_of a words) made) ∙ c.in-Ok.ensures.kinds (ap is_simple_and_free made) in
    let given : subcommand_rows_of c.in-Ok.matches ≡ subcommand_of program words =
    (c.in-Ok.ensures.matches (ap is_simple made)).1 ∙ ap (λ a. subcommand_of a words) made in
    IfErr-weaker c.of.result _ _ (λ d h. value_declined words d passes (subst (λ r. IsMemoryOr (Lacks r) d) given h)) c.of.ensures.err

pub returns-in-Err-clause-declined : goal.returns-in-Err-clause-declined
returns-in-Err-clause-declined g c =
    let words = map g.S.AsStr.text c.args.words.now in
    let made = c.in_ok-program_command.ensures in
    let kinds = subst (λ a. HasKind (fault_of a words) c.in-Err.error) made (c.in-Err.ensures.kinds (ap is_simple_and_free made)) in
    words_declined words _ _ kinds c.of-in-Err.ensures

pub returns-in-Ok-clause-bare : goal.returns-in-Ok-clause-bare
returns-in-Ok-clause-bare g c = λ name e. bare _ c.of.result name (returns-in-Ok-clause-asked g c) (returns-in-Ok-clause-declined g c) e

pub returns-in-Err-clause-bare : goal.returns-in-Err-clause-bare
returns-in-Err-clause-bare g c = λ name e. bare_declined _ _ name (returns-in-Err-clause-declined g c) e
