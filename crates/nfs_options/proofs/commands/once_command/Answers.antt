use Rattle.std.proofs.Common.{◌≡◌, ◌∙◌, ◌||◌, ap, ap₂, codes, false, rules}
use Rattle.std.proofs.lemmas.Result.{IfOk-weaker}
use Rattle.clap.specs.Words.{app_of, new_app, with_rule}
use Rattle.clap.specs.declared.builder.command.Command.TheViews.{out-Command}
use Rattle.nfs_options.specs.CommandLine.{core_options, with_options}
use Rattle.nfs_options.proofs.commands.once_command.Goals as goal

pub returns : goal.returns
returns c =
    let start : app_of c.after_help-once.result ≡ new_app (codes "once") = search rules in
    let core = c.in_ok-with_core_options.ensures.app ∙ ap (with_options core_options) start in
    let now = c.in_ok-arg.ensures.shape c.option-now.ensures.local ∙ ap₂ with_rule core c.option-now.ensures.rule in
    let no_global : (out-Command c.after_help-once.result).has_globals ≡ false = search rules in
    let core_local = c.in_ok-with_core_options.ensures.local no_global in
    let now_local = c.in_ok-arg.ensures.globals ∙ ap₂ (λ a b. a || b) core_local c.option-now.ensures.local in
    record {
      app = IfOk-weaker c.arg-2.result _ _ (λ made h. h.shape c.journal_option.ensures.local ∙ ap₂ with_rule now c.journal_option.ensures.rule) c.arg-2.ensures;
      local = IfOk-weaker c.arg-2.result _ _ (λ made h. h.globals ∙ ap₂ (λ a b. a || b) now_local c.journal_option.ensures.local) c.arg-2.ensures;
    }
