-- What was read of a reply is what the reply says.
use Rattle.std.proofs.Common.{◌≡◌, ◌≢◌, ◌⊎◌, ◌++◌, ◌∙◌, ℕ, Bool, true, false, List, Ok, Err, refl, sym, subst, ap, append_assoc, arith, inl, inr}
use Rattle.nfs_callbacks.specs.Faults.{AcceptedHead, Anything, DeniedHead, HasNumber, Says, Tells, accepted_fault, accepted_head, denied_fault, denied_head, status_fault}
use Rattle.nfs_callbacks.specs.declared.fault.Fault.{Fault}
use Rattle.nfs_callbacks.specs.declared.fault.Fault.TheVariants as faults
use Rattle.nfs_rpc.specs.CallbackReply.{HasStatus, Holds, IsAccepted, IsBare, IsDenied, IsReply, IsTakenAs, SaysOk, versions}
use Rattle.nfs_rpc.specs.Credential.{opaque_auth}
use Rattle.nfs_rpc.specs.declared.callback_reply.CallbackReply.TheVariants.{Refused}
use Rattle.nfs_rpc.specs.declared.credential.TheConstants.{BODY_LIMIT}
use Rattle.nfs_rpc.specs.declared.reply.TheConstants.{ACCEPTED_GARBAGE_ARGS, ACCEPTED_PROC_UNAVAIL, ACCEPTED_PROG_MISMATCH, ACCEPTED_PROG_UNAVAIL, ACCEPTED_SUCCESS, ACCEPTED_SYSTEM_ERR, DENIED_AUTH_ERROR, DENIED_RPC_MISMATCH, MESSAGE_REPLY, REPLY_ACCEPTED, REPLY_DENIED}
use Rattle.xdr.specs.Form.{Form, u32}
use Rattle.xdr.specs.Layout.{◌⨾◌, NO_LIMIT, Opaque, U32}
use Rattle.xdr.specs.Reading.{Begins, Read, constant_at, number_at, opaque_at}
use Rattle.xdr.specs.declared.wire_error.WireError.{WireError}
use Rattle.xdr.specs.laws.Reads.{Begins-then, lacks, ok_is, reads_constant, reads_number, reads_opaque}

-- a number that was read
pub number_there : (n : ℕ) (bytes rest : List ℕ) → number_at 4 bytes ≡ Ok (n, rest) → HasNumber n bytes
number_there n bytes rest is = (rest, (reads_number 4).sound bytes n rest is)

-- an accepted reply, word by word
pub accepted_there : (xid state flavor : ℕ) (body bytes b1 b2 b3 b4 b5 rest : List ℕ) → constant_at xid bytes ≡ Ok (tt, b1)
    → constant_at MESSAGE_REPLY b1 ≡ Ok (tt, b2) → constant_at REPLY_ACCEPTED b2 ≡ Ok (tt, b3)
    → number_at 4 b3 ≡ Ok (flavor, b4) → opaque_at BODY_LIMIT b4 ≡ Ok (body, b5) → number_at 4 b5 ≡ Ok (state, rest)
    → IsAccepted xid state (λ bytes. bytes ≡ rest) bytes
accepted_there xid state flavor body bytes b1 b2 b3 b4 b5 rest is1 is2 is3 is4 is5 is6 =
    let verifier = opaque_auth.layout (flavor, body) in
    let v = Begins-then (U32 flavor) (Opaque BODY_LIMIT body) b3 b4 b5 ((reads_number 4).sound b3 flavor b4 is4)
    ((reads_opaque BODY_LIMIT).sound b4 body b5 is5) in
    let s = Begins-then verifier (U32 state) b3 b5 rest v ((reads_number 4).sound b5 state rest is6) in
    let r = Begins-then (U32 REPLY_ACCEPTED) (verifier ⨾ U32 state) b2 b3 rest
    ((reads_constant REPLY_ACCEPTED).sound b2 tt b3 is3) s in
    let m = Begins-then (U32 MESSAGE_REPLY) (U32 REPLY_ACCEPTED ⨾ verifier ⨾ U32 state) b1 b2 rest
    ((reads_constant MESSAGE_REPLY).sound b1 tt b2 is2) r in
    let x = Begins-then (U32 xid) (U32 MESSAGE_REPLY ⨾ U32 REPLY_ACCEPTED ⨾ verifier ⨾ U32 state) bytes b1 rest
    ((reads_constant xid).sound bytes tt b1 is1) m in
    ((flavor, body), rest, x, refl)

-- a denied reply, word by word
pub denied_there : (xid state : ℕ) (bytes b1 b2 b3 rest : List ℕ) → constant_at xid bytes ≡ Ok (tt, b1)
    → constant_at MESSAGE_REPLY b1 ≡ Ok (tt, b2) → constant_at REPLY_DENIED b2 ≡ Ok (tt, b3)
    → number_at 4 b3 ≡ Ok (state, rest) → IsDenied xid state Anything bytes
denied_there xid state bytes b1 b2 b3 rest is1 is2 is3 is4 =
    let r = Begins-then (U32 REPLY_DENIED) (U32 state) b2 b3 rest ((reads_constant REPLY_DENIED).sound b2 tt b3 is3)
    ((reads_number 4).sound b3 state rest is4) in
    let m = Begins-then (U32 MESSAGE_REPLY) (U32 REPLY_DENIED ⨾ U32 state) b1 b2 rest
    ((reads_constant MESSAGE_REPLY).sound b1 tt b2 is2) r in
    let x = Begins-then (U32 xid) (U32 MESSAGE_REPLY ⨾ U32 REPLY_DENIED ⨾ U32 state) bytes b1 rest
    ((reads_constant xid).sound bytes tt b1 is1) m in
    (rest, x, tt)

-- Layouts in a row: bytes that begin with both begin with the first, and what follows begins with the second.
both : (P Q : List ℕ → Type 0) (bytes rest : List ℕ) → Begins (P ⨾ Q) bytes rest
    → (mid : List ℕ) × Begins P bytes mid × Begins Q mid rest
both P Q bytes rest h =
    let two = h.2 in
    (two.1 ++ rest, (two.0, h.1 ∙ ap (λ (x : List ℕ). x ++ rest) two.2 ∙ append_assoc two.0 two.1 rest, two.3), (two.1, refl, two.4))

-- what is at the front is read
read_there : {A : Type 0} (form : Form A) (bytes : List ℕ) (value : A) (rest : List ℕ) → Begins (form.layout value) bytes rest
    → form.at bytes ≡ Ok (value, rest)
read_there form bytes value rest found =
    ap form.at found.1 ∙ form.reads.complete value found.0 rest found.2

-- only one value of a form is at the front
one_value : {A : Type 0} (form : Form A) (bytes : List ℕ) (value other : A) (rest more : List ℕ)
    → Begins (form.layout value) bytes rest → Begins (form.layout other) bytes more → ◌≡◌ {A = A × List ℕ} (value, rest) (other, more)
one_value form bytes value other rest more first second =
    ok_is (value, rest) (other, more)
    (sym (read_there form bytes value rest first) ∙ read_there form bytes other more second)

-- a number that isn't read isn't there
pub no_number : (bytes : List ℕ) (e : WireError) → number_at 4 bytes ≡ Err e → (n : ℕ) → HasNumber n bytes → ⊥
no_number bytes e failed n has = lacks U32 (number_at 4) (reads_number 4) bytes e failed n has.0 has.1

-- the number at the front is the one that was read
pub same_number : (read n : ℕ) (bytes rest : List ℕ) → number_at 4 bytes ≡ Ok (read, rest) → HasNumber n bytes → n ≡ read
same_number read n bytes rest is has =
    ap (λ (p : ℕ × List ℕ). p.0) (one_value u32 bytes n read has.0 rest has.1 ((reads_number 4).sound bytes read rest is))

-- what follows the numbers at the front
next_of : (n m : ℕ) (Q R : List ℕ → Type 0) (bytes rest more : List ℕ) → Begins (U32 n ⨾ Q) bytes rest
    → Begins (U32 m ⨾ R) bytes more → (n ≡ m) × ((mid : List ℕ) × Begins Q mid rest × Begins R mid more)
next_of n m Q R bytes rest more first second =
    let a = both (U32 n) Q bytes rest first in
    let b = both (U32 m) R bytes more second in
    let same = one_value u32 bytes n m a.0 b.0 a.1 b.1 in (
      ap (λ (p : ℕ × List ℕ). p.0) same,
      (a.0, a.2, subst (λ (mid : List ℕ). Begins R mid more) (sym (ap (λ (p : ℕ × List ℕ). p.1) same)) b.2),
    )

-- no reply is accepted and denied
not_both : (xid state other : ℕ) (P Q : List ℕ → Type 0) (bytes : List ℕ) → IsAccepted xid state P bytes
    → IsDenied xid other Q bytes → ⊥
not_both xid state other P Q bytes a d =
    let verifier = opaque_auth.layout a.0 in
    let x = next_of xid xid (U32 MESSAGE_REPLY ⨾ U32 REPLY_ACCEPTED ⨾ verifier ⨾ U32 state)
    (U32 MESSAGE_REPLY ⨾ U32 REPLY_DENIED ⨾ U32 other) bytes a.1 d.0 a.2 d.1 in
    let m = next_of MESSAGE_REPLY MESSAGE_REPLY (U32 REPLY_ACCEPTED ⨾ verifier ⨾ U32 state)
    (U32 REPLY_DENIED ⨾ U32 other) x.1.0 a.1 d.0 x.1.1 x.1.2 in
    let s = next_of REPLY_ACCEPTED REPLY_DENIED (verifier ⨾ U32 state) (U32 other) m.1.0 a.1 d.0 m.1.1 m.1.2 in
    let clash : 0 ≡ 1 = s.0 in
    omega (arith, clash)

-- an accepted reply has one state, with one rest
same_accepted : (xid state other : ℕ) (P Q : List ℕ → Type 0) (bytes : List ℕ) (a : IsAccepted xid state P bytes)
    (b : IsAccepted xid other Q bytes) → (state ≡ other) × (a.1 ≡ b.1)
same_accepted xid state other P Q bytes a b =
    let same = one_value {A = AcceptedHead} (accepted_head xid) bytes (tt, (tt, (tt, (a.0, state)))) (tt, (tt, (tt, (b.0, other)))) a.1 b.1 a.2 b.2 in
    (ap (λ (p : AcceptedHead × List ℕ). p.0.1.1.1.1) same, ap (λ (p : AcceptedHead × List ℕ). p.1) same)

-- and so has a denied one
same_denied : (xid state other : ℕ) (P Q : List ℕ → Type 0) (bytes : List ℕ) → IsDenied xid state P bytes
    → IsDenied xid other Q bytes → state ≡ other
same_denied xid state other P Q bytes a b =
    ap (λ (p : DeniedHead × List ℕ). p.0.1.1.1)
    (one_value {A = DeniedHead} (denied_head xid) bytes (tt, (tt, (tt, state))) (tt, (tt, (tt, other))) a.0 b.0 a.1 b.1)

-- what isn't read as an accepted or a denied reply is no reply
no_accepted : (xid : ℕ) (bytes : List ℕ) (e : WireError) → (accepted_head xid).at bytes ≡ Err e → (state : ℕ)
    (P : List ℕ → Type 0) → IsAccepted xid state P bytes → ⊥
no_accepted xid bytes e failed state P a =
    lacks (accepted_head xid).layout (accepted_head xid).at (accepted_head xid).reads bytes e failed
    (tt, (tt, (tt, (a.0, state)))) a.1 a.2

no_denied : (xid : ℕ) (bytes : List ℕ) (e : WireError) → (denied_head xid).at bytes ≡ Err e → (state : ℕ)
    (P : List ℕ → Type 0) → IsDenied xid state P bytes → ⊥
no_denied xid bytes e failed state P d =
    lacks (denied_head xid).layout (denied_head xid).at (denied_head xid).reads bytes e failed
    (tt, (tt, (tt, state))) d.0 d.1

pub no_reply : (compound : Bool) (xid : ℕ) (bytes : List ℕ) (e f : WireError) → (accepted_head xid).at bytes ≡ Err e
    → (denied_head xid).at bytes ≡ Err f → IsReply compound xid bytes → ⊥
no_reply compound xid bytes e f a d (inl h) = no_accepted xid bytes e a ACCEPTED_SUCCESS (HasStatus compound h.0) h.1
no_reply compound xid bytes e f a d (inr (inl h)) = no_accepted xid bytes e a ACCEPTED_PROG_MISMATCH (Holds versions) h
no_reply compound xid bytes e f a d (inr (inr (inl h))) = no_accepted xid bytes e a h.0 Anything h.2
no_reply compound xid bytes e f a d (inr (inr (inr (inl h)))) = no_denied xid bytes f d DENIED_RPC_MISMATCH (Holds versions) h
no_reply compound xid bytes e f a d (inr (inr (inr (inr h)))) = no_denied xid bytes f d DENIED_AUTH_ERROR (Holds u32) h

-- what a reply to the call is that is accepted in this state
abbrev AcceptedAs : Bool → ℕ → ℕ → List ℕ → Type 0
AcceptedAs compound xid state bytes =
    ((state ≡ ACCEPTED_SUCCESS) × ((status : ℕ) × IsAccepted xid ACCEPTED_SUCCESS (HasStatus compound status) bytes))
    ⊎ (((state ≡ ACCEPTED_PROG_MISMATCH) × IsAccepted xid ACCEPTED_PROG_MISMATCH (Holds versions) bytes)
    ⊎ IsBare state)

accepted_as : (compound : Bool) (xid state : ℕ) (P : List ℕ → Type 0) (bytes : List ℕ) → IsAccepted xid state P bytes
    → IsReply compound xid bytes → AcceptedAs compound xid state bytes
accepted_as compound xid state P bytes a (inl h) =
    inl ((same_accepted xid state ACCEPTED_SUCCESS P (HasStatus compound h.0) bytes a h.1).0, h)
accepted_as compound xid state P bytes a (inr (inl h)) =
    inr (inl ((same_accepted xid state ACCEPTED_PROG_MISMATCH P (Holds versions) bytes a h).0, h))
accepted_as compound xid state P bytes a (inr (inr (inl h))) =
    inr (inr (subst IsBare (sym (same_accepted xid state h.0 P Anything bytes a h.2).0) h.1))
accepted_as compound xid state P bytes a (inr (inr (inr (inl h)))) =
    absurd (not_both xid state DENIED_RPC_MISMATCH P (Holds versions) bytes a h)
accepted_as compound xid state P bytes a (inr (inr (inr (inr h)))) =
    absurd (not_both xid state DENIED_AUTH_ERROR P (Holds u32) bytes a h)

-- what a reply to the call is that is denied in this state
abbrev DeniedAs : ℕ → ℕ → List ℕ → Type 0
DeniedAs xid state bytes =
    ((state ≡ DENIED_RPC_MISMATCH) × IsDenied xid DENIED_RPC_MISMATCH (Holds versions) bytes)
    ⊎ ((state ≡ DENIED_AUTH_ERROR) × IsDenied xid DENIED_AUTH_ERROR (Holds u32) bytes)

denied_as : (compound : Bool) (xid state : ℕ) (P : List ℕ → Type 0) (bytes : List ℕ) → IsDenied xid state P bytes
    → IsReply compound xid bytes → DeniedAs xid state bytes
denied_as compound xid state P bytes d (inl h) =
    absurd (not_both xid ACCEPTED_SUCCESS state (HasStatus compound h.0) P bytes h.1 d)
denied_as compound xid state P bytes d (inr (inl h)) =
    absurd (not_both xid ACCEPTED_PROG_MISMATCH state (Holds versions) P bytes h d)
denied_as compound xid state P bytes d (inr (inr (inl h))) = absurd (not_both xid h.0 state Anything P bytes h.2 d)
denied_as compound xid state P bytes d (inr (inr (inr (inl h)))) =
    inl (same_denied xid state DENIED_RPC_MISMATCH P (Holds versions) bytes d h, h)
denied_as compound xid state P bytes d (inr (inr (inr (inr h)))) =
    inr (same_denied xid state DENIED_AUTH_ERROR P (Holds u32) bytes d h, h)

-- an accepted reply in a state that is this
in_state : (xid state known : ℕ) (rest message : List ℕ) → state ≡ known
    → IsAccepted xid state (λ bytes. bytes ≡ rest) message → IsAccepted xid known Anything message
in_state xid state known rest message same is =
    subst (λ (n : ℕ). IsAccepted xid n Anything message) same (is.0, is.1, is.2, tt)

-- SUCCESS isn't among the states with nothing behind them
success_not_bare : IsBare ACCEPTED_SUCCESS → ⊥
success_not_bare (inl e) = let clash : 0 ≡ 1 = e in omega (arith, clash)
success_not_bare (inr (inl e)) = let clash : 0 ≡ 3 = e in omega (arith, clash)
success_not_bare (inr (inr (inl e))) = let clash : 0 ≡ 4 = e in omega (arith, clash)
success_not_bare (inr (inr (inr e))) = let clash : 0 ≡ 5 = e in omega (arith, clash)

-- the status of a CB_COMPOUND's result is its first number
first_is : (status : ℕ) (bytes : List ℕ) → HasStatus true status bytes → HasNumber status bytes
first_is status bytes h =
    let b = both (U32 status) (Opaque NO_LIMIT h.0 ⨾ U32 h.1) bytes h.2 h.3 in (b.0, b.1)

-- the status of a reply SUCCESS to a CB_COMPOUND with these results
its_status : (xid : ℕ) (results message : List ℕ) → IsAccepted xid ACCEPTED_SUCCESS (λ bytes. bytes ≡ results) message
    → IsReply true xid message
    → (status : ℕ) × HasNumber status results × IsAccepted xid ACCEPTED_SUCCESS (HasStatus true status) message
its_status xid results message a reply =
    elim (accepted_as true xid ACCEPTED_SUCCESS (λ bytes. bytes ≡ results) message a reply) [
      | inl h ↦
          let status = h.1.0 in
          let b = h.1.1 in
          let same = (same_accepted xid ACCEPTED_SUCCESS ACCEPTED_SUCCESS (λ bytes. bytes ≡ results) (HasStatus true status) message a b).1 in
          (status, subst (HasNumber status) (sym same ∙ a.3) (first_is status b.1 b.3), b)
      | inr (inl h) ↦ let clash : 0 ≡ 2 = h.0 in absurd (omega (arith, clash))
      | inr (inr bare) ↦ absurd (success_not_bare bare)
    ]

-- a reply SUCCESS accepts a CB_NULL
accepts_null : (xid : ℕ) (P : List ℕ → Type 0) (bytes : List ℕ) → IsAccepted xid ACCEPTED_SUCCESS P bytes → SaysOk false xid bytes
accepts_null xid P bytes a = (a.0, a.1, a.2, refl)

-- a reply SUCCESS that refuses the call has the status that was read
with_status : (compound : Bool) (xid status : ℕ) (results rest message : List ℕ) → number_at 4 results ≡ Ok (status, rest)
    → IsAccepted xid ACCEPTED_SUCCESS (λ bytes. bytes ≡ results) message → IsTakenAs compound xid message Refused
    → IsAccepted xid ACCEPTED_SUCCESS (HasStatus compound status) message
with_status true xid status results rest message read a refused =
    let s = its_status xid results message a refused.0 in
    subst (λ (n : ℕ). IsAccepted xid ACCEPTED_SUCCESS (HasStatus true n) message) (same_number status s.0 results rest read s.1) s.2
with_status false xid status results rest message read a refused =
    absurd (refused.1 (accepts_null xid (λ bytes. bytes ≡ results) message a))

-- and has one
no_status : (compound : Bool) (xid : ℕ) (results message : List ℕ) (e : WireError) → number_at 4 results ≡ Err e
    → IsAccepted xid ACCEPTED_SUCCESS (λ bytes. bytes ≡ results) message → IsTakenAs compound xid message Refused → ⊥
no_status true xid results message e failed a refused =
    let s = its_status xid results message a refused.0 in no_number results e failed s.0 s.1
no_status false xid results message e failed a refused =
    refused.1 (accepts_null xid (λ bytes. bytes ≡ results) message a)

-- what a reply SUCCESS says that refuses the call, by what is read of its results
status_says : (compound : Bool) (xid : ℕ) (rest message : List ℕ) (read : Read ℕ) → number_at 4 rest ≡ read
    → IsAccepted xid ACCEPTED_SUCCESS (λ bytes. bytes ≡ rest) message → IsTakenAs compound xid message Refused
    → Says compound xid message (status_fault read)
status_says compound xid rest message (Ok read) is a refused = with_status compound xid read.0 rest read.1 message is a refused
status_says compound xid rest message (Err e) is a refused = absurd (no_status compound xid rest message e is a refused)

-- what a reply says whose state has nothing behind it
bare_says : (compound : Bool) (xid state : ℕ) (rest message : List ℕ) → IsAccepted xid state (λ bytes. bytes ≡ rest) message
    → IsBare state → Says compound xid message (accepted_fault state rest)
bare_says compound xid state rest message a (inl e) =
    subst (λ (n : ℕ). Says compound xid message (accepted_fault n rest)) (sym e)
    (in_state xid state ACCEPTED_PROG_UNAVAIL rest message e a)
bare_says compound xid state rest message a (inr (inl e)) =
    subst (λ (n : ℕ). Says compound xid message (accepted_fault n rest)) (sym e)
    (in_state xid state ACCEPTED_PROC_UNAVAIL rest message e a)
bare_says compound xid state rest message a (inr (inr (inl e))) =
    subst (λ (n : ℕ). Says compound xid message (accepted_fault n rest)) (sym e)
    (in_state xid state ACCEPTED_GARBAGE_ARGS rest message e a)
bare_says compound xid state rest message a (inr (inr (inr e))) =
    subst (λ (n : ℕ). Says compound xid message (accepted_fault n rest)) (sym e)
    (in_state xid state ACCEPTED_SYSTEM_ERR rest message e a)

-- what an accepted reply says that refuses the call
pub accepted_says : (compound : Bool) (xid state : ℕ) (rest message : List ℕ)
    → IsAccepted xid state (λ bytes. bytes ≡ rest) message → IsTakenAs compound xid message Refused
    → Says compound xid message (accepted_fault state rest)
accepted_says compound xid state rest message a refused =
    elim (accepted_as compound xid state (λ bytes. bytes ≡ rest) message a refused.0) [
      | inl h ↦
          subst (λ (n : ℕ). Says compound xid message (accepted_fault n rest)) (sym h.0)
          (status_says compound xid rest message (number_at 4 rest) refl
          (subst (λ (n : ℕ). IsAccepted xid n (λ bytes. bytes ≡ rest) message) h.0 a) refused)
      | inr (inl h) ↦ subst (λ (n : ℕ). Says compound xid message (accepted_fault n rest)) (sym h.0) h.1
      | inr (inr bare) ↦ bare_says compound xid state rest message a bare
    ]

-- what a denied reply says
pub denied_says : (compound : Bool) (xid state : ℕ) (message : List ℕ) → IsDenied xid state Anything message
    → IsReply compound xid message → Says compound xid message (denied_fault state)
denied_says compound xid state message d reply =
    elim (denied_as compound xid state Anything message d reply) [
      | inl h ↦ subst (λ (n : ℕ). Says compound xid message (denied_fault n)) (sym h.0) h.1
      | inr h ↦ subst (λ (n : ℕ). Says compound xid message (denied_fault n)) (sym h.0) h.1
    ]

-- a record that is no reply to the call, and has no other xid, tells nothing
pub tells_nothing : (compound : Bool) (xid : ℕ) (message : List ℕ) → (IsReply compound xid message → ⊥)
    → ((other : ℕ) → HasNumber other message → other ≢ xid → ⊥) → (fault : Fault) → Tells compound xid message fault → ⊥
tells_nothing compound xid message unlike own faults.OtherXid t = own t.0 t.1 t.2
tells_nothing compound xid message unlike own faults.ProgUnavail t = unlike (inr (inr (inl (ACCEPTED_PROG_UNAVAIL, inl refl, t))))
tells_nothing compound xid message unlike own faults.ProgMismatch t = unlike (inr (inl t))
tells_nothing compound xid message unlike own faults.ProcUnavail t =
    unlike (inr (inr (inl (ACCEPTED_PROC_UNAVAIL, inr (inl refl), t))))
tells_nothing compound xid message unlike own faults.GarbageArgs t =
    unlike (inr (inr (inl (ACCEPTED_GARBAGE_ARGS, inr (inr (inl refl)), t))))
tells_nothing compound xid message unlike own faults.SystemError t =
    unlike (inr (inr (inl (ACCEPTED_SYSTEM_ERR, inr (inr (inr refl)), t))))
tells_nothing compound xid message unlike own (faults.Status status) t = unlike (inl (status, t))
tells_nothing compound xid message unlike own faults.RpcMismatch t = unlike (inr (inr (inr (inl t))))
tells_nothing compound xid message unlike own faults.AuthError t = unlike (inr (inr (inr (inr t))))
tells_nothing compound xid message unlike own faults.Unreadable t = t
tells_nothing compound xid message unlike own faults.NoAddress t = t
tells_nothing compound xid message unlike own faults.ConnectionRefused t = t
tells_nothing compound xid message unlike own faults.Unreachable t = t
tells_nothing compound xid message unlike own faults.TimedOut t = t
tells_nothing compound xid message unlike own faults.ConnectionFailed t = t
tells_nothing compound xid message unlike own faults.Closed t = t
tells_nothing compound xid message unlike own faults.TooLong t = t
