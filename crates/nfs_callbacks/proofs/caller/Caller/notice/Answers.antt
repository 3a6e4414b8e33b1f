use Rattle.std.proofs.Common.{ℕ, sym, subst, ap, ◌∙◌}
use Rattle.nfs_callbacks.proofs.Stepping.{all_alike, and_then, none, notices}
use Rattle.nfs_callbacks.specs.Callers.{scene_of}
use Rattle.nfs_callbacks.specs.Lines.{Standing, lines_of}
use Rattle.nfs_callbacks.specs.Source.{Noticed}
use Rattle.nfs_callbacks.specs.Steps.{rules}
use Rattle.nfs_forms.specs.declared.callback.Callback.{Callback}
use Rattle.std.specs.Option.{option_copied}
use Rattle.nfs_callbacks.proofs.caller.Caller.notice.Goals as goal

pub returns : goal.returns
returns g c =
    let answers = g.S.CallbackSource.answers in
    let r = rules answers g.D.Network.carries in
    let old = scene_of c.args.self.now in
    let lines = lines_of c.use_notice.new.self in
    let mid = record old { lines = lines } in
    let alike = ap (λ (l : ℕ → Standing). record old { lines = l }) (all_alike old.lines lines c.use_notice.ensures) in
    let called = sym c.current.ensures ∙ ap option_copied c.in-Some.is in
    and_then r old mid _ (none r old mid alike)
    (notices r mid c.args.client c.in-Some.errand.now c.notice.new.self called
    (subst (λ (callback : Callback). answers mid.source (Noticed c.args.client callback) c.notice.new.self) c.callback.ensures c.notice.ensures))
