use Rattle.std.proofs.Common.{◌≡◌, ℕ, Bool, Option, Some, Result, Ok, IfSome, inl, subst}
use Rattle.nfs_callbacks.specs.Source.{Marked}
use Rattle.nfs_core.specs.Callbacks.{callback_of}
use Rattle.nfs_core.specs.Events.{path_of}
use Rattle.nfs_core.specs.Server.{Enters, Server}
use Rattle.nfs_forms.specs.declared.callback.Callback.{Callback}
use Rattle.nfs_shared.specs.Held.{HasMarked, HeldView, SenderMayFind}
use Rattle.nfs_shared.specs.Sender.{SenderView}
use Rattle.nfs_state.specs.State.{History}
use Rattle.nfs_state.specs.declared.entry.Entry.TheVariants as entries
use Rattle.nfs_threads.specs.Calling.{IsAnswered}
use Rattle.nfs_threads.proofs.calling.SharedSourceCallbackSource.mark.Goals as goal

-- the mark was made in a value that was found, by this entry
abbrev IsMarkedBy : History → SenderView → ℕ → Callback → Bool → ℕ → Type 0
IsMarkedBy start sender client callback up number =
    (held : HeldView) × SenderMayFind start sender held × (callback_of client held.server ≡ Some callback)
    × ((new : Server) × Enters held.server new (entries.Path (path_of client up)) number)

pub returns : goal.returns
returns g c =
    let start = g.N.Naming.start in
    let new = c.mark_called.new.sender in
    let marks = subst (λ (m : Option ℕ). IfSome m (IsMarkedBy start c.self.inside.sender c.args.client c.args.callback.now c.is_ok-up.result)) c.in-Some.is c.in-Ok.ensures.marks in
    let count = subst (λ (m : Option ℕ). IfSome m (λ number. HasMarked start c.self.inside.sender new)) c.in-Some.is c.in-Ok.ensures.count in
    let of_self = subst (λ (s : SenderView). IsMarkedBy start s c.args.client c.args.callback.now c.is_ok-up.result c.in-Some.field-0) c.self.view_is marks in
    let by = subst (λ (up : Bool). IsMarkedBy start c.args.self.now c.args.client c.args.callback.now up c.in-Some.field-0) c.is_ok-up.ensures.value of_self in
    inl ((by.0, by.1, (by.2, (by.3.0, c.in-Some.field-0, by.3.1))), subst (λ (s : SenderView). HasMarked start s new) c.self.view_is count)
