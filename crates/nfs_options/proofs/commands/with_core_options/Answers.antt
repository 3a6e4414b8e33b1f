use Rattle.std.proofs.Common.{◌∙◌, ◌||◌, ap₂, refl}
use Rattle.std.proofs.lemmas.Result.{IfOk-weaker}
use Rattle.clap.specs.Words.{with_rule}
use Rattle.nfs_options.proofs.commands.with_core_options.Goals as goal

pub returns : goal.returns
returns c =
    let one = c.in_ok-arg.ensures.shape c.option-tree.ensures.local ∙ ap₂ with_rule refl c.option-tree.ensures.rule in
    let two = c.in_ok-arg-2.ensures.shape c.option-lease.ensures.local ∙ ap₂ with_rule one c.option-lease.ensures.rule in
    record {
      app = IfOk-weaker c.arg-3.result _ _ (λ made h. h.shape c.option-epoch.ensures.local ∙ ap₂ with_rule two c.option-epoch.ensures.rule) c.arg-3.ensures;
      local = λ no_global.
          let one_local = c.in_ok-arg.ensures.globals ∙ ap₂ (λ a b. a || b) no_global c.option-tree.ensures.local in
          let two_local = c.in_ok-arg-2.ensures.globals ∙ ap₂ (λ a b. a || b) one_local c.option-lease.ensures.local in
          IfOk-weaker c.arg-3.result _ _ (λ made h. h.globals ∙ ap₂ (λ a b. a || b) two_local c.option-epoch.ensures.local) c.arg-3.ensures;
    }
