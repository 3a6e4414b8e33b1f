-- The recalls that left the core, and those that wait in it, after entries came.
use Rattle.std.proofs.Common.{◌≡◌, ℕ, zero, suc, ◌≤◌, List, [], ◌∷◌, ◌++◌, drop, length, sym, ap, ◌∙◌, subst, refl, arith, append_assoc, option_to_list}
use mathlib.Core.List.{IsPrefix}
use Rattle.nfs_core.specs.Recalls.{AreLeftOf, AreOneList, AreRecallsOf, RecallsBegin, RecallsLeft}
use Rattle.nfs_rpc.specs.declared.recall.Recall.{Recall}
use Rattle.nfs_shared.specs.Held.{HasQueued, HeldView, waiting}
use Rattle.nfs_state.specs.State.{History}
use Rattle.nfs_state.specs.declared.entry.Entry.{Entry}

drop_within : (n : ℕ) (xs ys : List Recall) → n ≤ length xs → drop n (xs ++ ys) ≡ drop n xs ++ ys
drop_within zero xs ys h = refl
drop_within (suc n) [] ys h = absurd (omega arith)
drop_within (suc n) (x ∷ xs) ys h = drop_within n xs ys (omega arith)

-- What left the core and then what waits in it stay the recalls of the journal, also where it went on.
pub out_kept : AreOneList → RecallsBegin → (journal : History) (more : List Entry) (out : List Recall) (old new : RecallsLeft)
    → AreLeftOf journal old → AreLeftOf (record journal { entries = journal.entries ++ more }) new → new.taken ≡ old.taken
    → AreRecallsOf journal (out ++ old.pending)
    → AreRecallsOf (record journal { entries = journal.entries ++ more }) (out ++ new.pending)
out_kept one begin journal more out old new was is taken recalls =
    let next : History = record journal { entries = journal.entries ++ more } in
    let same : out ++ old.pending ≡ was.0 = one journal (out ++ old.pending) was.0 recalls was.1 in
    let prefix : IsPrefix was.0 is.0 = begin journal more was.0 is.0 was.1 is.1 in
    let within : old.taken ≤ length was.0 = omega (arith, was.2) in
    let pending : new.pending ≡ old.pending ++ prefix.0 =
    is.3 ∙ ap (λ (n : ℕ). drop n is.0) taken ∙ ap (λ (rs : List Recall). drop old.taken rs) (sym prefix.1)
    ∙ drop_within old.taken was.0 prefix.0 within ∙ ap (λ (rs : List Recall). rs ++ prefix.0) (sym was.3) in
    let all : out ++ new.pending ≡ is.0 =
    ap (λ (rs : List Recall). out ++ rs) pending ∙ sym (append_assoc out old.pending prefix.0)
    ∙ ap (λ (rs : List Recall). rs ++ prefix.0) same ∙ prefix.1 in
    subst (AreRecallsOf next) (sym all) is.1

-- What was put into the queue and what waits for it stay the recalls of the journal where it went on, and nothing was
-- put or taken out.
pub queued_kept : AreOneList → RecallsBegin → (old new : HeldView) (more : List Entry)
    → AreLeftOf old.server.journal old.server.recalls
    → AreRecallsOf old.server.journal (old.put ++ waiting old.hand old.server.recalls)
    → new.server.journal ≡ record old.server.journal { entries = old.server.journal.entries ++ more }
    → AreLeftOf new.server.journal new.server.recalls → new.server.recalls.taken ≡ old.server.recalls.taken
    → HasQueued old new
    → AreRecallsOf new.server.journal (new.put ++ waiting new.hand new.server.recalls)
queued_kept one begin old new more was queued journal left taken same =
    let out : List Recall = old.put ++ option_to_list old.hand in
    let grown : History = record old.server.journal { entries = old.server.journal.entries ++ more } in
    let pending : List Recall = new.server.recalls.pending in
    let is : AreLeftOf grown new.server.recalls = subst (λ (j : History). AreLeftOf j new.server.recalls) journal left in
    let before : AreRecallsOf old.server.journal (out ++ old.server.recalls.pending) =
    subst (AreRecallsOf old.server.journal) (sym (append_assoc old.put (option_to_list old.hand) old.server.recalls.pending)) queued in
    let after : AreRecallsOf grown (out ++ pending) =
    out_kept one begin old.server.journal more out old.server.recalls new.server.recalls was is taken before in
    let all : out ++ pending ≡ new.put ++ waiting new.hand new.server.recalls =
    append_assoc old.put (option_to_list old.hand) pending
    ∙ (λ i. sym same.0 i ++ waiting (sym same.2 i) new.server.recalls) in
    subst (λ (y : History × List Recall). AreRecallsOf y.0 y.1) (λ i. (sym journal i, all i)) after

-- The same where nothing was entered.
pub queued_same : (old new : HeldView)
    → AreRecallsOf old.server.journal (old.put ++ waiting old.hand old.server.recalls)
    → new.server.journal ≡ old.server.journal → new.server.recalls ≡ old.server.recalls → HasQueued old new
    → AreRecallsOf new.server.journal (new.put ++ waiting new.hand new.server.recalls)
queued_same old new queued journal recalls same =
    subst (λ (y : History × List Recall). AreRecallsOf y.0 y.1)
    (λ i. (sym journal i, sym same.0 i ++ waiting (sym same.2 i) (sym recalls i))) queued
