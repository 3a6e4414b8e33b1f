-- Each recall that the source handed over was taken.
use Rattle.std.proofs.Common.{◌≡◌, ℕ, Bool, true, false, List, [], ◌∷◌, ◌++◌, inl, inr, Some, None, refl, sym, ap, ◌∙◌, append_assoc}
use Rattle.std.proofs.lemmas.List.{append-nil}
use Rattle.std.specs.List.{flat_map}
use Rattle.nfs_callbacks.specs.Accounts.{Lists, NothingIsOverlooked, handed_over, taken_in}
use Rattle.nfs_callbacks.specs.Errands.{callback_of}
use Rattle.nfs_callbacks.specs.Source.{Answered, HasCallback, HasDelegation, Lives, Marked, Noticed, Probed, Took, due}
use Rattle.nfs_callbacks.specs.Steps.{Advances, Asks, Begins, Drops, Files, IsCause, IsStep, LeavesAlone, Looks, Notices, Probes, Retries, Rules, Scene, Settles, Step, Stops, Takes}
use Rattle.nfs_callbacks.specs.declared.errand.Errand.{Errand}
use Rattle.nfs_callbacks.specs.declared.errand.Errand.TheVariants as errands
use Rattle.nfs_rpc.specs.declared.recall.Recall.{Recall}

due_hands : (client : ℕ) (errand : Errand) (is : Bool) → handed_over (due client errand is) ≡ []
due_hands client (errands.Recall recall) is = refl
due_hands client (errands.Null callback) is = refl

alone_hands : (question : Answered) → LeavesAlone question → handed_over question ≡ []
alone_hands (Took None) h = refl
alone_hands (Took (Some recall)) h = absurd h
alone_hands (Probed after found) h = refl
alone_hands (Lives client is) h = refl
alone_hands (HasCallback client callback is) h = refl
alone_hands (HasDelegation recall is) h = refl
alone_hands (Marked client callback reached result) h = refl
alone_hands (Noticed client callback) h = refl

cause_hands : (client : ℕ) (errand : Errand) (why : Answered) → IsCause client errand why → handed_over why ≡ []
cause_hands client errand why (inl e) = ap handed_over e ∙ due_hands client errand false
cause_hands client errand why (inr (inl e)) = ap handed_over e
cause_hands client errand why (inr (inr e)) = ap handed_over e

-- a step by one answer that hands nothing over
by_answer : {S D : Type 0} (r : Rules S D) (listed : S → List Recall) → Lists r listed → (old new : S) (answered : Answered)
    → r.answers old answered new → handed_over answered ≡ [] → listed new ≡ listed old ++ []
by_answer r listed lists old new answered is none =
    lists old new answered is ∙ ap (λ (l : List Recall). listed old ++ l) none

stays : {S D : Type 0} (listed : S → List Recall) (old new : Scene S D) → new.source ≡ old.source
    → listed new.source ≡ listed old.source ++ []
stays listed old new is = ap listed is ∙ sym (append-nil (listed old.source))

step_lists : {S D : Type 0} (r : Rules S D) (listed : S → List Recall) → Lists r listed → (old new : Scene S D) (step : Step)
    → IsStep r old step new → listed new.source ≡ listed old.source ++ taken_in step
step_lists r listed lists old new (Takes recall) is = lists old.source new.source (Took (Some recall)) is.1
step_lists r listed lists old new (Files recall) is = stays listed old new (ap (λ s. s.source) is.1)
step_lists r listed lists old new (Probes client callback) is = lists old.source new.source _ is.2
step_lists r listed lists old new (Begins client errand xid result) is =
    by_answer r listed lists old.source new.source (due client errand true) is.2 (due_hands client errand true)
step_lists r listed lists old new (Retries client) is = stays listed old new (ap (λ s. s.source) is.1)
step_lists r listed lists old new (Advances client errand talks progress) is =
    stays listed old new (ap (λ s. s.source) is.1)
step_lists r listed lists old new (Drops client errand) is =
    by_answer r listed lists old.source new.source (due client errand false) is.2 (due_hands client errand false)
step_lists r listed lists old new (Stops client errand why) is =
    by_answer r listed lists old.source new.source why is.3 (cause_hands client errand why is.2)
step_lists r listed lists old new (Settles client errand reached None) is =
    by_answer r listed lists old.source new.source (due client errand false) is.1 (due_hands client errand false)
step_lists r listed lists old new (Settles client errand reached (Some result)) is =
    lists is.1.0 new.source _ is.1.2
    ∙ ap (λ (l : List Recall). l ++ []) (by_answer r listed lists old.source is.1.0 (due client errand true) is.1.1 (due_hands client errand true))
    ∙ append-nil (listed old.source ++ [])
step_lists r listed lists old new (Asks question) is =
    by_answer r listed lists old.source new.source question is.1 (alone_hands question is.0)
step_lists r listed lists old new (Notices client errand) is =
    by_answer r listed lists old.source new.source (Noticed client (callback_of errand)) is.2 refl
step_lists r listed lists old new Looks is = stays listed old new (ap (λ s. s.source) is.1)

pub Nothing-is-overlooked : {S D : Type 0} (r : Rules S D) → NothingIsOverlooked r
Nothing-is-overlooked r listed lists old new [] is = stays listed old new (ap (λ s. s.source) is)
Nothing-is-overlooked r listed lists old new (step ∷ steps) is =
    Nothing-is-overlooked r listed lists is.0 new steps is.2
    ∙ ap (λ (l : List Recall). l ++ flat_map taken_in steps) (step_lists r listed lists old is.0 step is.1)
    ∙ append_assoc (listed old.source) (taken_in step) (flat_map taken_in steps)
