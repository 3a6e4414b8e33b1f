use Rattle.std.proofs.Common.{◌≡◌, ◌∙◌, ap, ap₂, codes, rules, true}
use Rattle.std.proofs.lemmas.Result.{IfOk-weaker}
use Rattle.clap.specs.Words.{App, app_of, new_app, with_subcommand}
use Rattle.clap.specs.Simple.{app_of_fields, on_top}
use Rattle.nfs_options.proofs.commands.program_command.Goals as goal

pub returns : goal.returns
returns c =
    let start : app_of c.after_help.result ≡ new_app (codes "nfs4state") = search rules in
    let begun = ap app_of_fields c.disable_help_subcommand-program.ensures ∙ ap (on_top (λ s. record s { disable_help_subcommand = true })) start in
    let one = c.in_ok-subcommand.ensures.shape c.in_ok-once_command.ensures.local ∙ ap₂ with_subcommand begun (ap (λ (a : App). a.top) c.in_ok-once_command.ensures.app) in
    let two = c.in_ok-subcommand-2.ensures.shape c.in_ok-serve_command.ensures.local ∙ ap₂ with_subcommand one (ap (λ (a : App). a.top) c.in_ok-serve_command.ensures.app) in
    IfOk-weaker c.subcommand-3.result _ _ (λ made h. h.shape c.in_ok-audit_command.ensures.local ∙ ap₂ with_subcommand two (ap (λ (a : App). a.top) c.in_ok-audit_command.ensures.app)) c.subcommand-3.ensures
