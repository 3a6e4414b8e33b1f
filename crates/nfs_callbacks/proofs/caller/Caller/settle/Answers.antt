use Rattle.std.proofs.Common.{Bool, Some, None, Result, Ok, Err, subst, ap, ◌∙◌}
use Rattle.nfs_callbacks.proofs.Stepping.{settles, settles_later}
use Rattle.nfs_callbacks.specs.Callers.{scene_of}
use Rattle.nfs_callbacks.specs.Lines.{lines_of}
use Rattle.nfs_callbacks.specs.Source.{Marked, due}
use Rattle.nfs_callbacks.specs.declared.probe.MarkError.{MarkError}
use Rattle.nfs_callbacks.specs.declared.probe.MarkError.TheVariants as marks
use Rattle.nfs_forms.specs.declared.callback.Callback.{Callback}
use Rattle.nfs_callbacks.specs.Steps.{rules}
use Rattle.nfs_callbacks.proofs.caller.Caller.settle.Goals as goal

pub returns-then-not-is_due : goal.returns-then-not-is_due
returns-then-not-is_due g c =
    let answers = g.S.CallbackSource.answers in
    let carries = g.D.Network.carries in
    let r = rules answers carries in
    let old = scene_of c.args.self.now in
    let errand = c.in-Some.errand.now in
    settles r old c.args.client errand c.in-Some.reached None c.is_due.new.source (lines_of c.turn.new.self) c.in-Some.ensures.some
    (subst (λ (b : Bool). answers old.source (due c.args.client errand b) c.is_due.new.source) c.if-not-is_due.true c.is_due.ensures)
    c.turn.ensures

pub returns-in-Ok : goal.returns-in-Ok
returns-in-Ok g c =
    let answers = g.S.CallbackSource.answers in
    let carries = g.D.Network.carries in
    let r = rules answers carries in
    let old = scene_of c.args.self.now in
    let errand = c.in-Some.errand.now in
    let asked = subst (λ (b : Bool). answers old.source (due c.args.client errand b) c.is_due.new.source) c.if-not-is_due.false c.is_due.ensures in
    let told = subst (λ (callback : Callback). answers c.is_due.new.source (Marked c.args.client callback c.in-Some.reached (Ok tt)) c.mark.new.self) c.callback.ensures
    (subst (λ (res : Result (Unit {0}) MarkError). answers c.is_due.new.source (Marked c.args.client c.callback.result.now c.in-Some.reached res) c.mark.new.self)
    (c.in-Ok.is) c.mark.ensures) in
    settles r old c.args.client errand c.in-Some.reached (Some (Ok tt)) c.mark.new.self (lines_of c.turn-in-Ok.new.self) c.in-Some.ensures.some
    (c.is_due.new.source, asked, told) c.turn-in-Ok.ensures

pub returns-in-Err-Later : goal.returns-in-Err-Later
returns-in-Err-Later g c =
    let answers = g.S.CallbackSource.answers in
    let carries = g.D.Network.carries in
    let r = rules answers carries in
    let old = scene_of c.args.self.now in
    let errand = c.in-Some.errand.now in
    let asked = subst (λ (b : Bool). answers old.source (due c.args.client errand b) c.is_due.new.source) c.if-not-is_due.false c.is_due.ensures in
    let told = subst (λ (callback : Callback). answers c.is_due.new.source (Marked c.args.client callback c.in-Some.reached (Err marks.Later)) c.mark.new.self) c.callback.ensures
    (subst (λ (res : Result (Unit {0}) MarkError). answers c.is_due.new.source (Marked c.args.client c.callback.result.now c.in-Some.reached res) c.mark.new.self)
    (c.in-Err-Later.is ∙ ap Err c.in-Err-Later.field-0-is) c.mark.ensures) in
    settles_later r old c.args.client errand c.in-Some.reached c.mark.new.self c.in-Some.ensures.some (c.is_due.new.source, asked, told)

pub returns-in-Err-Never : goal.returns-in-Err-Never
returns-in-Err-Never g c =
    let answers = g.S.CallbackSource.answers in
    let carries = g.D.Network.carries in
    let r = rules answers carries in
    let old = scene_of c.args.self.now in
    let errand = c.in-Some.errand.now in
    let asked = subst (λ (b : Bool). answers old.source (due c.args.client errand b) c.is_due.new.source) c.if-not-is_due.false c.is_due.ensures in
    let told = subst (λ (callback : Callback). answers c.is_due.new.source (Marked c.args.client callback c.in-Some.reached (Err marks.Never)) c.mark.new.self) c.callback.ensures
    (subst (λ (res : Result (Unit {0}) MarkError). answers c.is_due.new.source (Marked c.args.client c.callback.result.now c.in-Some.reached res) c.mark.new.self)
    (c.in-Err-Never.is ∙ ap Err c.in-Err-Never.field-0-is) c.mark.ensures) in
    settles r old c.args.client errand c.in-Some.reached (Some (Err marks.Never)) c.mark.new.self (lines_of c.turn-in-Err-Never.new.self) c.in-Some.ensures.some
    (c.is_due.new.source, asked, told) c.turn-in-Err-Never.ensures
