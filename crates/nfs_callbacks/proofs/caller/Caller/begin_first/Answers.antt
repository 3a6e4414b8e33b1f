use Rattle.std.proofs.Common.{Bool, Result, Ok, Err, sym, subst, ap, refl, ◌∙◌}
use Rattle.nfs_callbacks.proofs.Stepping.{and_then, begins, drops}
use Rattle.nfs_callbacks.specs.Callers.{scene_of}
use Rattle.nfs_callbacks.specs.Exchanges.{Conversation, IsBegun}
use Rattle.nfs_callbacks.specs.Lines.{lines_of}
use Rattle.nfs_callbacks.specs.Source.{due}
use Rattle.nfs_callbacks.specs.declared.flow.ConnectError.{ConnectError}
use Rattle.nfs_callbacks.specs.declared.flow.ConnectError.TheVariants as errors
use Rattle.nfs_callbacks.specs.declared.line.Turn.TheVariants as turns
use Rattle.std.specs.Option.{option_copied}
use Rattle.nfs_callbacks.specs.Steps.{rules}
use Rattle.nfs_callbacks.proofs.caller.Caller.begin_first.Goals as goal

pub returns-then-not-is_due : goal.returns-then-not-is_due
returns-then-not-is_due g c =
    let answers = g.S.CallbackSource.answers in
    let carries = g.D.Network.carries in
    let r = rules answers carries in
    let old = scene_of c.args.self.now in
    let errand = c.in-Some.errand.now in
    let ready = sym c.state.ensures ∙ c.in-Ready.is in
    let first = sym c.first.ensures ∙ ap option_copied c.in-Some.is in
    drops r old c.args.client errand c.is_due.new.source (lines_of c.turn.new.self) ready first
    (subst (λ (b : Bool). answers old.source (due c.args.client errand b) c.is_due.new.source) c.if-not-is_due.true c.is_due.ensures)
    c.turn.ensures

pub returns-in-Ok : goal.returns-in-Ok
returns-in-Ok g c =
    let answers = g.S.CallbackSource.answers in
    let carries = g.D.Network.carries in
    let r = rules answers carries in
    let old = scene_of c.args.self.now in
    let errand = c.in-Some.errand.now in
    let ready = sym c.state.ensures ∙ c.in-Ready.is in
    let first = sym c.first.ensures ∙ ap option_copied c.in-Some.is in
    let asked = subst (λ (b : Bool). answers old.source (due c.args.client errand b) c.is_due.new.source) c.if-not-is_due.false c.is_due.ensures in
    let starts = subst (λ (res : Result Conversation ConnectError). IsBegun carries c.args.client errand c.args.self.now.xid res old.network c.begin.new.net)
    (c.in-Ok.is) c.begin.ensures in
    begins r old c.args.client errand (Ok c.in-Ok.exchange) (turns.Begins c.in-Ok.exchange) c.is_due.new.source c.begin.new.net
    (lines_of c.turn-in-Ok.new.self) ready first asked starts (λ rest. refl) c.turn-in-Ok.ensures

pub returns-in-Err-Refused : goal.returns-in-Err-Refused
returns-in-Err-Refused g c =
    let answers = g.S.CallbackSource.answers in
    let carries = g.D.Network.carries in
    let r = rules answers carries in
    let old = scene_of c.args.self.now in
    let errand = c.in-Some.errand.now in
    let ready = sym c.state.ensures ∙ c.in-Ready.is in
    let first = sym c.first.ensures ∙ ap option_copied c.in-Some.is in
    let asked = subst (λ (b : Bool). answers old.source (due c.args.client errand b) c.is_due.new.source) c.if-not-is_due.false c.is_due.ensures in
    let starts = subst (λ (res : Result Conversation ConnectError). IsBegun carries c.args.client errand c.args.self.now.xid res old.network c.begin.new.net)
    (c.in-Err-Refused.is ∙ ap Err c.in-Err-Refused.field-0-is) c.begin.ensures in
    begins r old c.args.client errand (Err errors.Refused) turns.Refuses c.is_due.new.source c.begin.new.net
    (lines_of c.turn-in-Err-Refused.new.self) ready first asked starts (λ rest. refl) c.turn-in-Err-Refused.ensures

pub returns-in-Err-Fault : goal.returns-in-Err-Fault
returns-in-Err-Fault g c =
    let answers = g.S.CallbackSource.answers in
    let carries = g.D.Network.carries in
    let r = rules answers carries in
    let old = scene_of c.args.self.now in
    let errand = c.in-Some.errand.now in
    let ready = sym c.state.ensures ∙ c.in-Ready.is in
    let first = sym c.first.ensures ∙ ap option_copied c.in-Some.is in
    let asked = subst (λ (b : Bool). answers old.source (due c.args.client errand b) c.is_due.new.source) c.if-not-is_due.false c.is_due.ensures in
    let starts = subst (λ (res : Result Conversation ConnectError). IsBegun carries c.args.client errand c.args.self.now.xid res old.network c.begin.new.net)
    (c.in-Err-Fault.is ∙ ap Err c.in-Err-Fault.field-0-is) c.begin.ensures in
    and_then r old _ _
    (begins r old c.args.client errand (Err (errors.Fault c.in-Err-Fault.fault)) (turns.Fails c.in-Err-Fault.fault) c.is_due.new.source c.begin.new.net
    (lines_of c.turn-in-Err-Fault.new.self) ready first asked starts (λ rest. refl) c.turn-in-Err-Fault.ensures)
    c.settle.ensures
