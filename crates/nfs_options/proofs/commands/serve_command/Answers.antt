use Rattle.std.proofs.Common.{◌≡◌, ◌∙◌, ◌||◌, ap, ap₂, codes, false, rules}
use Rattle.std.proofs.lemmas.Result.{IfOk-weaker}
use Rattle.clap.specs.Words.{app_of, new_app, with_rule}
use Rattle.clap.specs.declared.builder.command.Command.TheViews.{out-Command}
use Rattle.nfs_options.specs.CommandLine.{core_options, with_options}
use Rattle.nfs_options.proofs.commands.serve_command.Goals as goal

pub returns : goal.returns
returns c =
    let start : app_of c.after_help.result ≡ new_app (codes "serve") = search rules in
    let one = c.in_ok-arg.ensures.shape c.option-listen.ensures.local ∙ ap₂ with_rule start c.option-listen.ensures.rule in
    let two = c.in_ok-arg-2.ensures.shape c.option-connections.ensures.local ∙ ap₂ with_rule one c.option-connections.ensures.rule in
    let three = c.in_ok-arg-3.ensures.shape c.flag-input_ends.ensures.local ∙ ap₂ with_rule two c.flag-input_ends.ensures.rule in
    let four = c.in_ok-arg-4.ensures.shape c.flag-killed.ensures.local ∙ ap₂ with_rule three c.flag-killed.ensures.rule in
    let five = c.in_ok-serve.ensures.shape c.flag-orders.ensures.local ∙ ap₂ with_rule four c.flag-orders.ensures.rule in
    let core = c.in_ok-with_core_options.ensures.app ∙ ap (with_options core_options) five in
    let no_global : (out-Command c.after_help.result).has_globals ≡ false = search rules in
    let one_local = c.in_ok-arg.ensures.globals ∙ ap₂ (λ a b. a || b) no_global c.option-listen.ensures.local in
    let two_local = c.in_ok-arg-2.ensures.globals ∙ ap₂ (λ a b. a || b) one_local c.option-connections.ensures.local in
    let three_local = c.in_ok-arg-3.ensures.globals ∙ ap₂ (λ a b. a || b) two_local c.flag-input_ends.ensures.local in
    let four_local = c.in_ok-arg-4.ensures.globals ∙ ap₂ (λ a b. a || b) three_local c.flag-killed.ensures.local in
    let five_local = c.in_ok-serve.ensures.globals ∙ ap₂ (λ a b. a || b) four_local c.flag-orders.ensures.local in
    let core_local = c.in_ok-with_core_options.ensures.local five_local in
    let six = c.in_ok-arg-5.ensures.shape c.journal_option.ensures.local ∙ ap₂ with_rule core c.journal_option.ensures.rule in
    let six_local = c.in_ok-arg-5.ensures.globals ∙ ap₂ (λ a b. a || b) core_local c.journal_option.ensures.local in
    record {
      app = IfOk-weaker c.arg-7.result _ _ (λ made h. h.shape c.option-memory.ensures.local ∙ ap₂ with_rule six c.option-memory.ensures.rule) c.arg-7.ensures;
      local = IfOk-weaker c.arg-7.result _ _ (λ made h. h.globals ∙ ap₂ (λ a b. a || b) six_local c.option-memory.ensures.local) c.arg-7.ensures;
    }
