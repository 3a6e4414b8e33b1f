-- The entries of a journal, in its file.
use Rattle.std.specs.Prelude.{◌≡◌, ℕ, Bool, true, false, ◌==◌, List, [], ◌∷◌, Option, Some, None, if◌then◌else◌}
use Rattle.std.proofs.Common.{refl, ap, sym, ◌∙◌}
use Rattle.std.proofs.lemmas.Bool.{eqb-true}
use Rattle.std.specs.List.{find}
use Rattle.nfs_forms.specs.MomentForm.{moment}
use Rattle.nfs_forms.specs.OpenOwner.{open_owner}
use Rattle.nfs_forms.specs.declared.principal.Principal.{Principal}
use Rattle.nfs_forms.specs.declared.principal.Principal.TheVariants.{AuthNone, AuthSys}
use Rattle.nfs_state.specs.declared.entry.Call.{Call}
use Rattle.nfs_state.specs.declared.entry.Entry.{Entry}
use Rattle.nfs_state.specs.declared.entry.Entry.TheVariants as entries
use Rattle.nfs_state.specs.declared.entry.Expire.{Expire}
use Rattle.nfs_state.specs.declared.entry.Forget.{Forget}
use Rattle.nfs_state.specs.declared.entry.Path.{Path}
use Rattle.nfs_state.specs.declared.entry.Revoke.{Revoke}
use Rattle.nfs_state.specs.declared.request.Request.{Request}
use Rattle.nfs_state.specs.declared.entry_kind.EntryKind.{EntryKind}
use Rattle.nfs_state.specs.declared.entry_kind.EntryKind.TheVariants as kinds
use Rattle.nfs_xdr.specs.Op.{op}
use Rattle.nfs_xdr.specs.OpResult.{op_result}
use Rattle.xdr.specs.Form.{Form, ◌and◌, of, some_of, enumeration, u32, flag}
use Rattle.xdr.specs.Switch.{Case, Content, case, Arm, arm_in, Agrees, IsRead}
use Rattle.xdr.specs.Union.{switch}

-- the words of what is there or not: whether it is there, and its number, or 0
abbrev zero_only : {A : Type 0} → Bool → A → Option A
zero_only is_zero value = if is_zero then Some value else None

zero_by : {A : Type 0} (n : ℕ) (b : Bool) (value other : A)
    → (n == 0) ≡ b → zero_only b value ≡ Some other → (other ≡ value) × (0 ≡ n)
zero_by n true value other is h = (cc, sym (eqb-true n 0 is))
zero_by n false value other is h = absurd cc

zero_is : {A : Type 0} (n : ℕ) (value other : A) → zero_only (n == 0) value ≡ Some other → (other ≡ value) × (0 ≡ n)
zero_is {A = A} n value other h = zero_by n (n == 0) value other refl h

-- who a flavor and a uid stand for: AUTH_NONE is 0, with uid 0, and AUTH_SYS is 1
abbrev pub principal_of : Bool × ℕ → Option Principal
principal_of w = if w.0 then Some (AuthSys w.1) else zero_only (w.1 == 0) AuthNone

abbrev pub words_of_principal : Principal → Bool × ℕ
words_of_principal AuthNone = (false, 0)
words_of_principal (AuthSys uid) = (true, uid)

principal_from : (has_uid : Bool) (uid : ℕ) (p : Principal)
    → principal_of (has_uid, uid) ≡ Some p → words_of_principal p ≡ (has_uid, uid)
principal_from true uid p h =
    let is : AuthSys uid ≡ p = cc in
    ap words_of_principal (sym is)
principal_from false uid p h =
    let is = zero_is uid AuthNone p h in
    ap words_of_principal is.0 ∙ ap (λ (n : ℕ). (false, n)) is.1

pub principal_back : (w : Bool × ℕ) (p : Principal) → principal_of w ≡ Some p → words_of_principal p ≡ w
principal_back w p h = principal_from w.0 w.1 p h

pub principal_again : (p : Principal) → principal_of (words_of_principal p) ≡ Some p
principal_again AuthNone = refl
principal_again (AuthSys uid) = refl

-- u32 flavor; u32 uid
unfoldable pub principal : Form Principal
principal = some_of principal_of words_of_principal principal_back (flag and u32)

-- the node of the current filehandle, if there is one; without one the number is 0
abbrev pub filehandle_of : Bool × ℕ → Option (Option ℕ)
filehandle_of w = if w.0 then Some (Some w.1) else zero_only (w.1 == 0) None

abbrev pub words_of_filehandle : Option ℕ → Bool × ℕ
words_of_filehandle None = (false, 0)
words_of_filehandle (Some node) = (true, node)

filehandle_from : (is_present : Bool) (node : ℕ) (h : Option ℕ)
    → filehandle_of (is_present, node) ≡ Some h → words_of_filehandle h ≡ (is_present, node)
filehandle_from true node h e =
    let is : Some node ≡ h = cc in
    ap words_of_filehandle (sym is)
filehandle_from false node h e =
    let is = zero_is node None h e in
    ap words_of_filehandle is.0 ∙ ap (λ (n : ℕ). (false, n)) is.1

pub filehandle_back : (w : Bool × ℕ) (h : Option ℕ) → filehandle_of w ≡ Some h → words_of_filehandle h ≡ w
filehandle_back w h e = filehandle_from w.0 w.1 h e

pub filehandle_again : (h : Option ℕ) → filehandle_of (words_of_filehandle h) ≡ Some h
filehandle_again None = refl
filehandle_again (Some node) = refl

-- bool present; u32 node
unfoldable pub filehandle : Form (Option ℕ)
filehandle = some_of filehandle_of words_of_filehandle filehandle_back (flag and u32)

-- struct { moment; principal; filehandle; op; }
unfoldable pub request : Form Request
request = of (λ p. record { moment = p.0; principal = p.1.0; filehandle = p.1.1.0; op = p.1.1.1 })
    (λ r. (r.moment, (r.principal, (r.filehandle, r.op)))) (λ p. refl) (λ r. refl)
    (moment and principal and filehandle and op)

-- struct { request; answer; }
unfoldable pub call : Form Call
call = of (λ p. record { request = p.0; answer = p.1 }) (λ c. (c.request, c.answer)) (λ p. refl) (λ c. refl)
    (request and op_result)

-- struct { u32 client; seen; now; }
unfoldable pub expire : Form Expire
expire = of (λ p. record { client = p.0; seen = p.1.0; now = p.1.1 }) (λ e. (e.client, (e.seen, e.now)))
    (λ p. refl) (λ e. refl) (u32 and moment and moment)

-- struct { u32 number; now; }
unfoldable pub revoke : Form Revoke
revoke = of (λ p. record { number = p.0; now = p.1 }) (λ r. (r.number, r.now)) (λ p. refl) (λ r. refl)
    (u32 and moment)

-- struct { u32 client; bool up; }
unfoldable pub path : Form Path
path = of (λ p. record { client = p.0; up = p.1 }) (λ m. (m.client, m.up)) (λ p. refl) (λ m. refl)
    (u32 and flag)

-- struct { owner; now; }
unfoldable pub forget : Form Forget
forget = of (λ p. record { owner = p.0; now = p.1 }) (λ f. (f.owner, f.now)) (λ p. refl) (λ f. refl)
    (open_owner and moment)

-- union switch (kind): a kind's row is its number, and what an entry of the kind has after that
abbrev pub row_of_kind : EntryKind → ℕ × Case Entry
row_of_kind kinds.Call = (1, case call entries.Call)
row_of_kind kinds.Expire = (2, case expire entries.Expire)
row_of_kind kinds.Revoke = (3, case revoke entries.Revoke)
row_of_kind kinds.Path = (4, case path entries.Path)
row_of_kind kinds.Forget = (5, case forget entries.Forget)

abbrev pub entry_kinds : List EntryKind
entry_kinds = kinds.Call ∷ kinds.Expire ∷ kinds.Revoke ∷ kinds.Path ∷ kinds.Forget ∷ []

abbrev pub number_of : EntryKind → ℕ
number_of k = (row_of_kind k).0

abbrev pub entry_case : EntryKind → Case Entry
entry_case k = (row_of_kind k).1

pub known : (k : EntryKind) → find (λ v. number_of v == number_of k) entry_kinds ≡ Some k
known kinds.Call = refl
known k = refl

unfoldable pub kind : Form EntryKind
kind = enumeration number_of entry_kinds known

-- an entry's row: its kind, and how it is written after that
abbrev row : (k : EntryKind) → Content (entry_case k) → EntryKind × Arm Entry
row k content = (k, arm_in (entry_case k) content)

abbrev pub row_of : Entry → EntryKind × Arm Entry
row_of (entries.Call c) = row kinds.Call c
row_of (entries.Expire e) = row kinds.Expire e
row_of (entries.Revoke r) = row kinds.Revoke r
row_of (entries.Path p) = row kinds.Path p
row_of (entries.Forget f) = row kinds.Forget f

abbrev pub kind_of : Entry → EntryKind
kind_of e = (row_of e).0

abbrev pub entry_arm : Entry → Arm Entry
entry_arm e = (row_of e).1

pub entry_agrees : (k : EntryKind) → Agrees kind_of entry_arm k (entry_case k)
entry_agrees kinds.Call = λ v. (refl, refl)
entry_agrees k = λ v. (refl, refl)

pub entry_is_read : (e : Entry) → IsRead entry_case kind_of entry_arm e
entry_is_read (entries.Call c) = record { is = refl; reads = λ bytes. refl }
entry_is_read e = record { is = refl; reads = λ bytes. refl }

unfoldable pub entry : Form Entry
entry = switch kind entry_case kind_of entry_arm entry_agrees entry_is_read
