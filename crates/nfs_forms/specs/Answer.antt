-- The results of operations without the operation's number (RFC 7531, nfs_resop4): a status, and the data that comes
-- with it.
use Rattle.std.proofs.Common.{refl}
use Rattle.nfs_forms.specs.declared.answer.Answer.{Answer}
use Rattle.nfs_forms.specs.declared.answer.Answer.TheVariants.{Done, Denied, ClidInUse, Refused}
use Rattle.nfs_forms.specs.declared.status.Status.{Status}
use Rattle.nfs_forms.specs.declared.status.Status.TheVariants as status
use Rattle.nfs_forms.specs.Status as statuses
use Rattle.xdr.specs.Form.{Form, nothing}
use Rattle.xdr.specs.Switch.{Case, case, Arm, arm, Agrees, IsRead}
use Rattle.xdr.specs.Union.{switch}

abbrev pub status_of : {A D C : Type 0} → Answer A D C → Status
status_of (Done value) = status.Ok
status_of (Denied value) = status.Denied
status_of (ClidInUse value) = status.ClidInUse
status_of (Refused refusal) = status.Refused refusal

-- union switch (nfsstat4 status) {
--   case NFS4_OK: done;
--   case NFS4ERR_DENIED: denied;
--   case NFS4ERR_CLID_INUSE: in_use;
--   default: void;
-- }
abbrev pub answer_case : {A D C : Type 0} → Form A → Form D → Form C
    → Status → Case (Answer A D C)
answer_case done denied in_use status.Ok = case done Done
answer_case done denied in_use status.Denied = case denied Denied
answer_case done denied in_use status.ClidInUse = case in_use ClidInUse
answer_case done denied in_use (status.Refused refusal) = case nothing (λ v. Refused refusal)

abbrev pub answer_arm : {A D C : Type 0} → Form A → Form D → Form C
    → Answer A D C → Arm (Answer A D C)
answer_arm done denied in_use (Done value) = arm done Done value
answer_arm done denied in_use (Denied value) = arm denied Denied value
answer_arm done denied in_use (ClidInUse value) = arm in_use ClidInUse value
answer_arm done denied in_use (Refused refusal) = arm nothing (λ v. Refused refusal) tt

pub answer_agrees : {A D C : Type 0}
    (done : Form A) (denied : Form D) (in_use : Form C) (s : Status)
    → Agrees status_of (answer_arm done denied in_use) s (answer_case done denied in_use s)
answer_agrees done denied in_use status.Ok = λ value. (refl, refl)
answer_agrees done denied in_use status.Denied = λ value. (refl, refl)
answer_agrees done denied in_use status.ClidInUse = λ value. (refl, refl)
answer_agrees done denied in_use (status.Refused refusal) = λ v. (refl, refl)

pub answer_is_read : {A D C : Type 0}
    (done : Form A) (denied : Form D) (in_use : Form C) (a : Answer A D C)
    → IsRead (answer_case done denied in_use) status_of (answer_arm done denied in_use) a
answer_is_read done denied in_use (Done value) = record { is = refl; reads = λ bytes. refl }
answer_is_read done denied in_use (Denied value) = record { is = refl; reads = λ bytes. refl }
answer_is_read done denied in_use (ClidInUse value) = record { is = refl; reads = λ bytes. refl }
answer_is_read done denied in_use (Refused refusal) = record { is = refl; reads = λ bytes. refl }

unfoldable pub answer : {A D C : Type 0} → Form A → Form D → Form C → Form (Answer A D C)
answer done denied in_use =
    switch statuses.status
    (answer_case done denied in_use) status_of (answer_arm done denied in_use)
    (answer_agrees done denied in_use) (answer_is_read done denied in_use)

-- The answer of an operation that returns data only with NFS4_OK, as most do.
abbrev pub PlainAnswer : Type 0 → Type 0
PlainAnswer A = Answer A (Unit {0}) (Unit {0})

abbrev pub plain_answer : {A : Type 0} → Form A → Form (PlainAnswer A)
plain_answer done = answer done nothing nothing
