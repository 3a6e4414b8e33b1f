-- What the steps of the callback thread come to.
use Rattle.std.proofs.Common.{◌≡◌, ℕ, eqb, Bool, true, false, List, [], ◌∷◌, ◌++◌, filter, Option, Some, None, Result, Ok, Err, inl, inr, refl, sym, ap, ◌∙◌, if◌then◌else◌}
use Rattle.std.proofs.lemmas.List.{append-nil}
use Rattle.std.specs.List.{flat_map}
use Rattle.nfs_callbacks.specs.Accounts.{Lists, NothingIsLost, NothingIsOverlooked, handed_over, if_of, taken_by, taken_in}
use Rattle.nfs_callbacks.specs.Callers.{idle}
use Rattle.nfs_callbacks.specs.Source.{Answered, HasCallback, HasDelegation, Lives, Marked, Noticed, Probed, Took}
use Rattle.nfs_callbacks.specs.Steps.{Advances, Asks, Begins, Drops, Files, Looks, Notices, Probes, Retries, Settles, Step, Stops, Takes, client_of}
use Rattle.nfs_callbacks.specs.declared.probe.MarkError.TheVariants as marks
use Rattle.nfs_rpc.specs.declared.recall.Recall.{Recall}
use Rattle.nfs_shared.specs.Held.{HasLooked, HasMarked}
use Rattle.nfs_shared.specs.Sender.{SenderView}
use Rattle.nfs_state.specs.State.{History}
use Rattle.nfs_threads.specs.Calling.{HasCalled, NoneIsLost, calling, is_to, unused}

-- a look takes nothing
by_look : (start : History) (old new : SenderView) → HasLooked start old new → new.taken ≡ old.taken ++ []
by_look start old new looked = ap (λ (s : SenderView). s.taken) looked.2 ∙ sym (append-nil old.taken)

by_mark : (start : History) (old new : SenderView) → HasMarked start old new → new.taken ≡ old.taken ++ []
by_mark start old new marked = ap (λ (s : SenderView). s.taken) marked.2 ∙ by_look start old marked.0 marked.1

-- the sender's list gains just the recall that an answer hands over
taken_is_listed : (start : History) → Lists (calling start) (λ (s : SenderView). s.taken)
taken_is_listed start old new (Took None) is = ap (λ (s : SenderView). s.taken) is.0 ∙ sym (append-nil old.taken)
taken_is_listed start old new (Took (Some recall)) is = ap (λ (s : SenderView). s.taken) is
taken_is_listed start old new (Probed after (Ok found)) is = by_look start old new is.1
taken_is_listed start old new (Probed after (Err refused)) is = by_look start old new is
taken_is_listed start old new (Lives client lives) is = by_look start old new is.1
taken_is_listed start old new (HasCallback client callback has) is = by_look start old new is.1
taken_is_listed start old new (HasDelegation recall has) is = by_look start old new is.1
taken_is_listed start old new (Marked client callback reached (Ok done)) (inl is) = by_mark start old new is.1
taken_is_listed start old new (Marked client callback reached (Ok done)) (inr is) =
    ap (λ (s : SenderView). s.taken) is.2.1 ∙ sym (append-nil old.taken)
taken_is_listed start old new (Marked client callback reached (Err marks.Later)) is = by_look start old new is.1
taken_is_listed start old new (Marked client callback reached (Err marks.Never)) is = by_look start old new is.1
taken_is_listed start old new (Noticed client callback) is =
    ap (λ (s : SenderView). s.taken) is ∙ sym (append-nil old.taken)

-- a recall of this client, or not
one_of : (is : Bool) (recall : Recall) (rest : List Recall)
    → (if is then recall ∷ rest else rest) ≡ (if is then recall ∷ [] else []) ++ rest
one_of true recall rest = refl
one_of false recall rest = refl

-- of what was taken, that of one client
of_client : (client : ℕ) (steps : List Step)
    → filter (is_to client) (flat_map taken_in steps) ≡ flat_map (taken_by client) steps
of_client client [] = refl
of_client client (Takes recall ∷ steps) =
    one_of (eqb client (client_of recall)) recall (filter (is_to client) (flat_map taken_in steps))
    ∙ ap (λ (l : List Recall). if_of client (client_of recall) (recall ∷ []) ++ l) (of_client client steps)
of_client client (Files recall ∷ steps) = of_client client steps
of_client client (Probes other callback ∷ steps) = of_client client steps
of_client client (Begins other errand xid result ∷ steps) = of_client client steps
of_client client (Retries other ∷ steps) = of_client client steps
of_client client (Advances other errand talks progress ∷ steps) = of_client client steps
of_client client (Drops other errand ∷ steps) = of_client client steps
of_client client (Stops other errand why ∷ steps) = of_client client steps
of_client client (Settles other errand reached told ∷ steps) = of_client client steps
of_client client (Notices other errand ∷ steps) = of_client client steps
of_client client (Asks question ∷ steps) = of_client client steps
of_client client (Looks ∷ steps) = of_client client steps

pub none_is_lost : (start : History) → NothingIsLost (calling start) → NothingIsOverlooked (calling start)
    → (sender : SenderView) (called : HasCalled start sender) → NoneIsLost start sender called
none_is_lost start lost overlooked sender called client =
    let first = idle unused tt in
    let taken = ap (λ (s : SenderView). s.taken) called.is
    ∙ overlooked (λ (s : SenderView). s.taken) (taken_is_listed start) first called.last called.steps called.goes in
    ap (filter (is_to client)) taken ∙ of_client client called.steps
    ∙ lost client first called.last called.steps called.goes
