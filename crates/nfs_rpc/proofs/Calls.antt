-- The call that is read from a record is the one that the rules give, and the rules give one call for each record.
use Rattle.std.proofs.Common.{◌≡◌, ℕ, cond, not, eqb, List, [], ◌∷◌, Option, Some, None, Result, Ok, Err, refl, sym, ap, subst, ◌∙◌, inl, inr}
use Rattle.std.specs.Prelude.{IsOk}
use Rattle.std.proofs.lemmas.Bool.{eqb-true, eqb-false, eq-eqb}
use Rattle.xdr.specs.declared.wire_error.WireError.{WireError}
use Rattle.xdr.specs.Form.{Form}
use Rattle.xdr.specs.Reading.{Read, Begins, ◌>>=◌}
use Rattle.xdr.specs.laws.Reads.{true_or_false, ok_is, lacks}
use Rattle.nfs_xdr.specs.declared.compound.Compound.{Compound as CompoundArgs}
use Rattle.nfs_forms.specs.declared.principal.Principal.{Principal}
use Rattle.nfs_forms.specs.declared.principal.Principal.TheVariants as principals
use Rattle.nfs_xdr.specs.Compound.{OneCompoundIsEncoded, compound_at, head, request_at}
use Rattle.nfs_rpc.specs.declared.rpc_call.RpcCall.{RpcCall}
use Rattle.nfs_rpc.specs.declared.rpc_call.RpcCall.TheVariants.{Silent, Null, Compound, Answer}
use Rattle.nfs_rpc.specs.declared.rpc_call.Start.{Start}
use Rattle.nfs_rpc.specs.declared.rpc_call.TheConstants.{NFS_PROGRAM, NFS_VERSION, PROC_COMPOUND, PROC_NULL, RPC_VERSION}
use Rattle.nfs_rpc.specs.declared.credential.TheConstants.{AUTH_NONE, AUTH_SYS}
use Rattle.nfs_rpc.specs.declared.reply.Reply.TheVariants.{RpcMismatch, AuthError, ProcUnavail, SystemError}
use Rattle.nfs_rpc.specs.AuthSys.{AuthSys, auth_sys}
use Rattle.nfs_rpc.specs.Credential.{IsOf, OpaqueAuth, principal_of, user_of}
use Rattle.nfs_rpc.specs.RpcCall.{Body, CallHeader, CallsFor, First, HasAnotherProcedure, HasAnotherProgram, HasAnotherRpc, HasAnotherVersion, HasCompound, HasGarbage, HasHeader, HasNoHeader, HasNoPrincipal, HasNull, IsCall, OneCall, OrSystemError, body, header, start}
use Rattle.nfs_rpc.specs.ReadingCalls.{call_of, compound_or_garbage, header_call, header_of, procedure_call, read_or, some_or, start_call}

-- what the bytes encode is read
pub reads_there : {A : Type 0} (form : Form A) (bytes : List ℕ) (value : A) (rest : List ℕ) → Begins (form.layout value) bytes rest → form.at bytes ≡ Ok (value, rest)
reads_there form bytes value rest found = ap form.at found.1 ∙ form.reads.complete value found.0 rest found.2

-- Credentials: a principal that is read from a credential is its principal.
user_stands : (a : OpaqueAuth) (p : Principal) (r : Read AuthSys) → a.0 ≡ AUTH_SYS → auth_sys.at a.1 ≡ r → user_of r ≡ Some p → IsOf a p
user_stands a p (Ok x) flavor read e =
    let some : ◌≡◌ {A = Option Principal} (Some (principals.AuthSys x.0.uid)) (Some p) = e in
    let same : principals.AuthSys x.0.uid ≡ p = cc in
    subst (λ (q : Principal). IsOf a q) same (flavor, (x.0, x.1, auth_sys.reads.sound a.1 x.0 x.1 read, refl))
user_stands a p (Err d) flavor read e = absurd cc

principal_stands : (a : OpaqueAuth) (p : Principal) → principal_of a ≡ Some p → IsOf a p
principal_stands a p e =
    elim (true_or_false (eqb a.0 AUTH_NONE)) [
      | inl none ↦
          let some : ◌≡◌ {A = Option Principal} (Some principals.AuthNone) (Some p) = rw none at e in
          let same : principals.AuthNone ≡ p = cc in
          subst (λ (q : Principal). IsOf a q) same (eqb-true _ _ none)
      | inr other ↦ elim (true_or_false (eqb a.0 AUTH_SYS)) [
        | inl sys ↦ user_stands a p (auth_sys.at a.1) (eqb-true _ _ sys) refl (rw (other, sys) at e)
        | inr another ↦
            let clash : ◌≡◌ {A = Option Principal} None (Some p) = rw (other, another) at e in absurd cc
      ]
    ]

principal_complete : (a : OpaqueAuth) (p : Principal) → IsOf a p → principal_of a ≡ Some p
principal_complete a principals.AuthNone is = rw (eq-eqb _ _ is) refl
principal_complete a (principals.AuthSys uid) is =
    let given : auth_sys.at a.1 ≡ Ok (is.1.0, is.1.1) = reads_there auth_sys a.1 is.1.0 is.1.1 is.1.2 in
    rw (is.0, given) (ap (λ n. Some (principals.AuthSys n)) is.1.3)

no_principal : (a : OpaqueAuth) → principal_of a ≡ None → (p : Principal) → IsOf a p → ⊥
no_principal a none p is =
    let clash : ◌≡◌ {A = Option Principal} None (Some p) = sym none ∙ principal_complete a p is in cc

one_principal : (a : OpaqueAuth) (p q : Principal) → IsOf a p → IsOf a q → p ≡ q
one_principal a p q first second =
    let same : ◌≡◌ {A = Option Principal} (Some p) (Some q) = sym (principal_complete a p first) ∙ principal_complete a q second in cc

-- Headers: a header that is read is the one that the bytes encode.
the_header : (Is : CallHeader → List ℕ → Type 0) (message : List ℕ) (h : CallHeader) (rest : List ℕ) → header.at message ≡ Ok (h, rest) → HasHeader Is message → Is h rest
the_header Is message h rest read has =
    let same : (h, rest) ≡ (has.0, has.1) = ok_is (h, rest) (has.0, has.1) (sym read ∙ reads_there header message has.0 has.1 has.2) in
    subst (λ (x : CallHeader × List ℕ). Is x.0 x.1) (sym same) has.3

has_header : (Is : CallHeader → List ℕ → Type 0) (message : List ℕ) (h : CallHeader) (rest : List ℕ) → header.at message ≡ Ok (h, rest) → Is h rest → HasHeader Is message
has_header Is message h rest read is = (h, rest, header.reads.sound message h rest read, is)

no_header : (message : List ℕ) (e : WireError) → header.at message ≡ Err e → (h : CallHeader) (rest : List ℕ) → Begins (header.layout h) message rest → ⊥
no_header = lacks header.layout header.at header.reads

-- The rules in their order: those from the procedure on, and those from the program on.
abbrev ProcedureRules : List ℕ → List (RpcCall → Type 0)
ProcedureRules message = HasNull message ∷ HasAnotherProcedure message ∷ HasCompound message ∷ HasGarbage message ∷ []

abbrev ProgramRules : List ℕ → List (RpcCall → Type 0)
ProgramRules message = HasAnotherProgram message ∷ HasAnotherVersion message ∷ ProcedureRules message

-- The header of a record was read: a start and a body. `beyond` are the bytes after it.
record IsRead (message : List ℕ) (s : Start) (b : Body) (beyond : List ℕ) (principal : Principal) : Type 0 where
  read : header.at message ≡ Ok ((s, b), beyond)
  principal_is : IsOf b.credential principal

arguments_case : OneCompoundIsEncoded → (message : List ℕ) (s : Start) (b : Body) (beyond : List ℕ) (principal : Principal) → IsRead message s b beyond principal
    → (r : Result CompoundArgs WireError) → compound_at beyond ≡ r → First (HasCompound message ∷ HasGarbage message ∷ []) (compound_or_garbage s.xid principal r)
arguments_case law message s b beyond principal is (Ok compound) e =
    inl ((s, b), beyond, header.reads.sound message (s, b) beyond is.read, (principal, compound, is.principal_is, (law beyond compound).0 e, refl))
arguments_case law message s b beyond principal is (Err error) e =
    inr (
      (λ any has.
          let found = the_header _ message (s, b) beyond is.read has in
          let clash : ◌≡◌ {A = Result CompoundArgs WireError} (Err error) (Ok found.1) = sym e ∙ (law beyond found.1).1 found.3 in cc),
      inl ((s, b), beyond, header.reads.sound message (s, b) beyond is.read, refl),
    )

procedure_case : OneCompoundIsEncoded → (message : List ℕ) (s : Start) (b : Body) (beyond : List ℕ) (principal : Principal) → IsRead message s b beyond principal
    → First (ProcedureRules message) (cond (eqb b.procedure PROC_NULL) (Null s.xid) (cond (not (eqb b.procedure PROC_COMPOUND)) (Answer s.xid ProcUnavail) (compound_or_garbage s.xid principal (compound_at beyond))))
procedure_case law message s b beyond principal is =
    let found = header.reads.sound message (s, b) beyond is.read in
    elim (true_or_false (eqb b.procedure PROC_NULL)) [
      | inl null ↦ rw null (inl ((s, b), beyond, found, (eqb-true _ _ null, refl)))
      | inr other ↦ elim (true_or_false (eqb b.procedure PROC_COMPOUND)) [
        | inl compound ↦ rw (other, compound) (inr (
          (λ any has. eqb-false _ _ other (the_header _ message (s, b) beyond is.read has).0),
          inr (
            (λ any has. (the_header _ message (s, b) beyond is.read has).0 (eqb-true _ _ compound)),
            arguments_case law message s b beyond principal is (compound_at beyond) refl,
          ),
        ))
        | inr another ↦ rw (other, another) (inr (
          (λ any has. eqb-false _ _ other (the_header _ message (s, b) beyond is.read has).0),
          inl ((s, b), beyond, found, (eqb-false _ _ another, refl)),
        ))
      ]
    ]

program_case : OneCompoundIsEncoded → (message : List ℕ) (s : Start) (b : Body) (beyond : List ℕ) (principal : Principal) → IsRead message s b beyond principal
    → First (ProgramRules message) (procedure_call s.xid (header_of b) beyond principal)
program_case law message s b beyond principal is =
    let found = header.reads.sound message (s, b) beyond is.read in
    elim (true_or_false (eqb b.program NFS_PROGRAM)) [
      | inl program ↦ elim (true_or_false (eqb b.version NFS_VERSION)) [
        | inl version ↦ rw (program, version) (inr (
          (λ any has. (the_header _ message (s, b) beyond is.read has).0 (eqb-true _ _ program)),
          inr (
            (λ any has. (the_header _ message (s, b) beyond is.read has).0 (eqb-true _ _ version)),
            procedure_case law message s b beyond principal is,
          ),
        ))
        | inr other ↦ rw (program, other) (inr (
          (λ any has. (the_header _ message (s, b) beyond is.read has).0 (eqb-true _ _ program)),
          inl ((s, b), beyond, found, (eqb-false _ _ other, refl)),
        ))
      ]
      | inr other ↦ rw other (inl ((s, b), beyond, found, (eqb-false _ _ other, refl)))
    ]

principal_case : OneCompoundIsEncoded → (message : List ℕ) (s : Start) (b : Body) (beyond : List ℕ) → header.at message ≡ Ok ((s, b), beyond) → (r : Option Principal) → principal_of b.credential ≡ r
    → First (HasNoPrincipal message ∷ ProgramRules message) (some_or (Answer s.xid AuthError) r (procedure_call s.xid (header_of b) beyond))
principal_case law message s b beyond read None e =
    inl ((s, b), beyond, header.reads.sound message (s, b) beyond read, (no_principal b.credential e, refl))
principal_case law message s b beyond read (Some principal) e =
    let is = principal_stands b.credential principal e in
    inr (
      (λ any has. (the_header _ message (s, b) beyond read has).0 principal is),
      program_case law message s b beyond principal (record { read = read; principal_is = is }),
    )

body_case : OneCompoundIsEncoded → (message : List ℕ) (s : Start) (rest : List ℕ) → start.at message ≡ Ok (s, rest) → (r : Read Body) → body.at rest ≡ r
    → First (HasNoHeader message ∷ HasNoPrincipal message ∷ ProgramRules message) (read_or Silent (r >>= λ a. Ok (header_of a.0, a.1)) (header_call s.xid))
body_case law message s rest first (Err error) e =
    let failed : header.at message ≡ Err error = rw (first, e) refl in
    inl (no_header message error failed, refl)
body_case law message s rest first (Ok b) e =
    let read : header.at message ≡ Ok ((s, b.0), b.1) = rw (first, e) refl in
    inr (
      (λ any has. has.0 (s, b.0) b.1 (header.reads.sound message (s, b.0) b.1 read)),
      principal_case law message s b.0 b.1 read (principal_of b.0.credential) refl,
    )

start_case : OneCompoundIsEncoded → (message : List ℕ) (r : Read Start) → start.at message ≡ r → CallsFor message (read_or Silent r start_call)
start_case law message (Err error) e =
    let failed : header.at message ≡ Err error = rw e refl in
    inr (
      (λ any has. lacks start.layout start.at start.reads message error e has.0 has.1 has.2),
      inl (no_header message error failed, refl),
    )
start_case law message (Ok s) e =
    elim (true_or_false (eqb s.0.rpc_version RPC_VERSION)) [
      | inl right ↦ rw right (inr (
        (λ any has.
            let same : s ≡ (has.0, has.1) = ok_is s (has.0, has.1) (sym e ∙ reads_there start message has.0 has.1 has.2) in
            has.3 (ap (λ (x : Start × List ℕ). x.0.rpc_version) (sym same) ∙ eqb-true _ _ right)),
        body_case law message s.0 s.1 e (body.at s.1) refl,
      ))
      | inr other ↦ rw other (inl (s.0, s.1, start.reads.sound message s.0 s.1 e, eqb-false _ _ other, refl))
    ]

pub calls_for : OneCompoundIsEncoded → (message : List ℕ) → CallsFor message (call_of message)
calls_for law message = start_case law message (start.at message) refl

-- A call that was read is the call of the record, also where SYSTEM_ERR answers a COMPOUND for which memory ran out.
pub call_stands : OneCompoundIsEncoded → (message : List ℕ) (call : RpcCall) → OrSystemError (λ c. c ≡ call_of message) call → IsCall message call
call_stands law message call (inl e) = inl (subst (CallsFor message) (sym e) (calls_for law message))
call_stands law message call (inr refused) =
    inr (refused.0, refused.1, refused.2, subst (CallsFor message) (sym refused.3) (calls_for law message), refused.4)

request_there : (r : Read (List ℕ × (ℕ × ℕ))) → IsOk r → (compound : CompoundArgs) × ((r >>= λ h. Ok (record { tag = h.0.0; request = request_at h.0.1.0 h.0.1.1 h.1 })) ≡ Ok compound)
request_there (Ok h) ok = (record { tag = h.0.0; request = request_at h.0.1.0 h.0.1.1 h.1 }, refl)
request_there (Err e) ok = absurd cc

-- If a tag, a minor version and a count can be read, so can a COMPOUND.
pub compound_there : (bytes : List ℕ) → IsOk (head.at bytes) → (compound : CompoundArgs) × (compound_at bytes ≡ Ok compound)
unfolding compound_at
compound_there bytes ok = request_there (head.at bytes) ok

pub refused_compound : (xid : ℕ) (principal : Principal) (bytes : List ℕ) → IsOk (head.at bytes) → OrSystemError (λ c. c ≡ compound_or_garbage xid principal (compound_at bytes)) (Answer xid SystemError)
refused_compound xid principal bytes ok =
    let found = compound_there bytes ok in
    inr (xid, principal, found.0, ap (compound_or_garbage xid principal) (sym found.1), refl)

-- Each rule gives at most one call, and so does the first rule that applies.
abbrev Single : (RpcCall → Type 0) → Type 0
Single rule = (a b : RpcCall) → rule a → rule b → a ≡ b

abbrev AllSingle : List (RpcCall → Type 0) → Type 0
AllSingle [] = Unit {0}
AllSingle (rule ∷ rules) = Single rule × AllSingle rules

first_single : (rules : List (RpcCall → Type 0)) → AllSingle rules → (a b : RpcCall) → First rules a → First rules b → a ≡ b
first_single [] single a b x y = absurd x
first_single (rule ∷ rules) single a b (inl x) (inl y) = single.0 a b x y
first_single (rule ∷ rules) single a b (inl x) (inr y) = absurd (y.0 a x)
first_single (rule ∷ rules) single a b (inr x) (inl y) = absurd (x.0 b y)
first_single (rule ∷ rules) single a b (inr x) (inr y) = first_single rules single.1 a b x.1 y.1

single_start : (message : List ℕ) → Single (HasAnotherRpc message)
single_start message a b x y =
    let same : (x.0, x.1) ≡ (y.0, y.1) = ok_is (x.0, x.1) (y.0, y.1) (sym (reads_there start message x.0 x.1 x.2) ∙ reads_there start message y.0 y.1 y.2) in
    x.4 ∙ ap (λ (s : Start × List ℕ). Answer s.0.xid RpcMismatch) same ∙ sym y.4

single_header : (message : List ℕ) (Is : RpcCall → CallHeader → List ℕ → Type 0) → ((h : CallHeader) (rest : List ℕ) (a b : RpcCall) → Is a h rest → Is b h rest → a ≡ b) → Single (λ call. HasHeader (Is call) message)
single_header message Is single a b x y =
    single x.0 x.1 a b x.3 (the_header (Is b) message x.0 x.1 (reads_there header message x.0 x.1 x.2) y)

single_compound : OneCompoundIsEncoded → (message : List ℕ) → Single (HasCompound message)
single_compound law message =
    single_header message _ (λ h rest a b x y.
    let same : ◌≡◌ {A = Result CompoundArgs WireError} (Ok x.1) (Ok y.1) = sym ((law rest x.1).1 x.3) ∙ (law rest y.1).1 y.3 in
    let compound : x.1 ≡ y.1 = cc in
    let principal = one_principal h.1.credential x.0 y.0 x.2 y.2 in
    x.4 ∙ ap (λ p. Compound h.0.xid p x.1) principal ∙ ap (Compound h.0.xid y.0) compound ∙ sym y.4)

all_single : OneCompoundIsEncoded → (message : List ℕ) → AllSingle (HasAnotherRpc message ∷ HasNoHeader message ∷ HasNoPrincipal message ∷ ProgramRules message)
all_single law message = (
  single_start message,
  (
    (λ a b x y. x.1 ∙ sym y.1),
    (
      single_header message _ (λ h rest a b x y. x.1 ∙ sym y.1),
      (
        single_header message _ (λ h rest a b x y. x.1 ∙ sym y.1),
        (
          single_header message _ (λ h rest a b x y. x.1 ∙ sym y.1),
          (
            single_header message _ (λ h rest a b x y. x.1 ∙ sym y.1),
            (
              single_header message _ (λ h rest a b x y. x.1 ∙ sym y.1),
              (
                single_compound law message,
                (single_header message _ (λ h rest a b x y. x ∙ sym y), tt),
              ),
            ),
          ),
        ),
      ),
    ),
  ),
)

pub one_call : OneCompoundIsEncoded → OneCall
one_call law message = (
  call_of message,
  calls_for law message,
  λ other is.
      first_single (HasAnotherRpc message ∷ HasNoHeader message ∷ HasNoPrincipal message ∷ ProgramRules message) (all_single law message) other (call_of message) is (calls_for law message),
)
