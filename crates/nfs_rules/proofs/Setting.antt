-- What is decided for a SETATTR is what its rule says, and can be sent.
use Rattle.std.proofs.Common.{◌≡◌, ◌≢◌, ◌∙◌, ℕ, zero, suc, ◌<◌, ◌≤◌, ◌^◌, Bool, true, false, List, [], ◌∷◌, length, Option, Some, Result, Ok, Err, refl, sym, ap, subst, arith}
use Rattle.std.specs.Prelude.{◌||◌, ◌==◌, not, bit_and, nat_lt, if◌then◌else◌}
use Rattle.std.specs.List.{All}
use Rattle.std.proofs.lemmas.Bool.{le-ltb, lt-ltb}
use Rattle.std.proofs.lemmas.List.Elements.{All-nil}
use Rattle.nfs_forms.specs.Bitmap.{bitmap}
use Rattle.nfs_forms.specs.declared.fattr.Fattr.{Fattr}
use Rattle.nfs_forms.specs.declared.status.Refusal.{Refusal}
use Rattle.nfs_forms.specs.declared.status.Refusal.TheVariants as refusals
use Rattle.nfs_forms.specs.declared.status.Status.TheVariants as statuses
use Rattle.nfs_operations.specs.declared.setattr.Setattr.{Setattr}
use Rattle.nfs_rules.specs.Deciding.{Decides, IsOther}
use Rattle.nfs_rules.specs.Transfers.{file_for, refused}
use Rattle.nfs_rules.specs.declared.decision.Decision.{Decision}
use Rattle.nfs_rules.specs.declared.wish.Wish.{Wish}
use Rattle.nfs_rules.specs.declared.transfer.Transfer.TheVariants as transfers
use Rattle.nfs_rules.specs.operations.Lockt.{place_of}
use Rattle.nfs_rules.specs.operations.Setattr.{granted, rule, set, setting, size_for, wish_of}
use Rattle.nfs_rules.proofs.Sendable.{file_place_other, then_other}
use Rattle.nfs_rules.proofs.Transferring.{file_refusal, refused_is}
use Rattle.nfs_state.specs.Entries.{IsSendable}
use Rattle.nfs_state.specs.State.{State, History}
use Rattle.nfs_state.specs.declared.change.Change.{Change}
use Rattle.nfs_state.specs.declared.change.Change.TheVariants.{Nothing, Cuts}
use Rattle.nfs_state.specs.declared.request.Request.{Request}
use Rattle.nfs_tree.specs.Attributes.{bit_of, has, mask_of, words_of}
use Rattle.nfs_tree.specs.declared.attribute.Attribute.TheVariants as attributes
use Rattle.nfs_tree.specs.Setting.{are_among, fixed_bits, settable_of, settable_words, writable, size_at, size_of_values, size_set, size_timed, time_at}
use Rattle.nfs_tree.specs.declared.attribute.Words.{Words}
use Rattle.nfs_tree.specs.declared.settable.SetTime.{SetTime}
use Rattle.nfs_tree.specs.declared.settable.SetTime.TheVariants as times
use Rattle.nfs_tree.specs.declared.settable.Settable.{Settable}
use Rattle.nfs_tree.specs.declared.tree.TheConstants.{TEXT_LIMIT}
use Rattle.nfs_xdr.specs.OpResult.{status_of}
use Rattle.nfs_xdr.specs.declared.op.Op.TheVariants as ops
use Rattle.xdr.specs.Reading.{Read, ◌then◌}

-- no refusal of what is asked for is NFS4ERR_RESOURCE

if_other : {A : Type 0} (test : Bool) (refusal : Refusal) (next : Result A Refusal) → refusal ≢ refusals.Resource → IsOther next → IsOther (if test then Err refusal else next)
if_other true refusal next other others = other
if_other false refusal next other others = others

else_other : {A : Type 0} (test : Bool) (next : Result A Refusal) (refusal : Refusal) → IsOther next → refusal ≢ refusals.Resource → IsOther (if test then next else Err refusal)
else_other true next refusal others other = others
else_other false next refusal others other = other

words_other : (words : Words) → IsOther (settable_words words)
words_other words =
    let asked : Result Settable Refusal = Ok (record {
      size = has words.first attributes.Size;
      time = has words.second attributes.TimeModifySet;
    }) in
    let fixed = not (bit_and words.second fixed_bits == 0) in
    if_other {A = Settable} (not (are_among words writable)) refusals.Inval (if fixed then Err refusals.Rofs else asked) (λ e. cc)
    (if_other {A = Settable} fixed refusals.Rofs asked (λ e. cc) tt)

settable_other : (mask : List ℕ) → IsOther (settable_of mask)
settable_other mask = else_other _ _ refusals.AttrNotSupp (words_other (words_of mask)) (λ e. cc)

timed_other : (size : Option ℕ) (time : SetTime) → IsOther (size_timed size time)
timed_other size times.Server = tt
timed_other size times.Client = λ e. cc

values_other : (read : Read (Option ℕ × SetTime)) → IsOther (size_of_values read)
values_other (Err e) = λ e. cc
values_other (Ok ((size, time), rest)) = else_other _ _ refusals.BadXdr (timed_other size time) (λ e. cc)

wish_other : (filehandle : Option ℕ) (given : Fattr) → IsOther (wish_of filehandle given)
wish_other filehandle given =
    then_other (place_of filehandle) _ (file_place_other filehandle) λ node.
    then_other (settable_of given.mask) _ (settable_other given.mask) λ asked.
    then_other (size_set asked given.values) _ (values_other ((size_at asked.size then time_at asked.time) given.values)) (λ size. tt)

wish_refusal : (filehandle : Option ℕ) (given : Fattr) (refusal : Refusal) → Err refusal ≡ wish_of filehandle given → refusal ≢ refusals.Resource
wish_refusal filehandle given refusal same = subst IsOther (sym same) (wish_other filehandle given)

-- The bitmap of what is set has at most two words.
one_word : (word : ℕ) → word < 2 ^ 32 → All (λ w. w < 2 ^ 32) (word ∷ [])
one_word word small zero d lt = small
one_word word small (suc k) d lt = absurd (omega (arith, lt))

two_words : (first second : ℕ) → first < 2 ^ 32 → second < 2 ^ 32 → All (λ w. w < 2 ^ 32) (first ∷ second ∷ [])
two_words first second small other zero d lt = small
two_words first second small other (suc zero) d lt = other
two_words first second small other (suc (suc k)) d lt = absurd (omega (arith, lt))

abbrev mask_bits : Bool → Bool → List ℕ
mask_bits size time = mask_of
    (record {
      first = if size then bit_of attributes.Size else 0;
      second = if time then bit_of attributes.TimeModifySet else 0;
    })

few_bits : (size time : Bool) → bitmap.Fits (mask_bits size time) × (length (mask_bits size time) ≤ 2)
few_bits false false = ((omega arith, omega arith, All-nil (λ w. w < 2 ^ 32)), omega arith)
few_bits true false = ((omega arith, omega arith, one_word (bit_of attributes.Size) (omega arith)), omega arith)
few_bits false true = ((omega arith, omega arith, two_words 0 (bit_of attributes.TimeModifySet) (omega arith) (omega arith)), omega arith)
few_bits true true = ((omega arith, omega arith, two_words (bit_of attributes.Size) (bit_of attributes.TimeModifySet) (omega arith) (omega arith)), omega arith)

set_sendable : (args : Setattr) (asked : Settable) (change : Change) → IsSendable (ops.Setattr args) (set asked change).answer
set_sendable args asked change = record {
  not_resource = λ same. (let apart : statuses.Ok ≡ statuses.Refused refusals.Resource = ap status_of same in absurd cc);
  opnum = refl;
  short = few_bits asked.size asked.time;
}

-- what is decided of a SETATTR
abbrev IsDecided : History → State → Request → Setattr → Decision → Type 0
IsDecided journal state request args decision =
    Decides (λ d. d ≡ rule journal state request args) state (ops.Setattr args) (Ok decision)

-- that nothing of what is asked for can be set
pub wish_refused : (journal : History) (state : State) (request : Request) (args : Setattr) (refusal : Refusal) (decision : Decision) → Err refusal ≡ wish_of request.filehandle args.attributes
    → decision ≡ refused transfers.Resize refusal → IsDecided journal state request args decision
wish_refused journal state request args refusal decision found is =
    let other = wish_refusal request.filehandle args.attributes refusal found in
    let sent = refused_is transfers.Resize (ops.Setattr args) state refusal refl other in
    subst (IsDecided journal state request args) (sym is)
    (ap (λ (w : Result Wish Refusal). Some (granted journal state request args w)) found, sent.sendable, sent.within, sent.place)

-- that nothing is asked for
pub nothing_set : (journal : History) (state : State) (request : Request) (args : Setattr) (wish : Wish) (decision : Decision) → Ok wish ≡ wish_of request.filehandle args.attributes
    → (wish.asked.size || wish.asked.time) ≡ false → decision ≡ set wish.asked Nothing → IsDecided journal state request args decision
nothing_set journal state request args wish decision found none is =
    let by_wish : granted journal state request args (Ok wish) ≡ set wish.asked Nothing = rw none refl in
    subst (IsDecided journal state request args) (sym is)
    (sym (ap Some by_wish) ∙ ap (λ (w : Result Wish Refusal). Some (granted journal state request args w)) found, set_sendable args wish.asked Nothing, tt, tt)

-- where something is asked for, it goes by the file
by_file : (journal : History) (state : State) (request : Request) (args : Setattr) (wish : Wish) (file : Result ℕ Decision) → Ok wish ≡ wish_of request.filehandle args.attributes
    → (wish.asked.size || wish.asked.time) ≡ true → file ≡ file_for transfers.Resize journal state request args.stateid → Some (setting state wish file) ≡ rule journal state request args
by_file journal state request args wish file found some is =
    let by_wish : granted journal state request args (Ok wish) ≡ setting state wish (file_for transfers.Resize journal state request args.stateid) = rw some refl in
    ap (λ (f : Result ℕ Decision). Some (setting state wish f)) is ∙ sym (ap Some by_wish) ∙ ap (λ (w : Result Wish Refusal). Some (granted journal state request args w)) found

-- that the file can't be changed
pub file_refused : (journal : History) (state : State) (request : Request) (args : Setattr) (wish : Wish) (decision : Decision) → Ok wish ≡ wish_of request.filehandle args.attributes
    → (wish.asked.size || wish.asked.time) ≡ true → Err decision ≡ file_for transfers.Resize journal state request args.stateid → IsDecided journal state request args decision
file_refused journal state request args wish decision found some is =
    let sent = file_refusal transfers.Resize (ops.Setattr args) journal state request args.stateid decision refl is in
    (by_file journal state request args wish (Err decision) found some is, sent.sendable, sent.within, sent.place)

-- that the size is beyond the limit of a file
pub size_refused : (journal : History) (state : State) (request : Request) (args : Setattr) (wish : Wish) (node size : ℕ) (decision : Decision) → Ok wish ≡ wish_of request.filehandle args.attributes
    → (wish.asked.size || wish.asked.time) ≡ true → Ok node ≡ file_for transfers.Resize journal state request args.stateid → size ≡ size_for state node wish.size → TEXT_LIMIT < size
    → decision ≡ refused transfers.Resize refusals.FBig → IsDecided journal state request args decision
size_refused journal state request args wish node size decision found some file same long is =
    let sent = refused_is transfers.Resize (ops.Setattr args) state refusals.FBig refl (λ e. cc) in
    let over : nat_lt TEXT_LIMIT (size_for state node wish.size) ≡ true = lt-ltb TEXT_LIMIT (size_for state node wish.size) (omega (arith, same, long)) in
    let by_size : setting state wish (Ok node) ≡ refused transfers.Resize refusals.FBig = rw over refl in
    subst (IsDecided journal state request args) (sym is)
    (sym (ap Some by_size) ∙ by_file journal state request args wish (Ok node) found some file, sent.sendable, sent.within, sent.place)

-- that it is set
pub size_is_set : (journal : History) (state : State) (request : Request) (args : Setattr) (wish : Wish) (node size : ℕ) (decision : Decision) → Ok wish ≡ wish_of request.filehandle args.attributes
    → (wish.asked.size || wish.asked.time) ≡ true → Ok node ≡ file_for transfers.Resize journal state request args.stateid → size ≡ size_for state node wish.size → size ≤ TEXT_LIMIT
    → decision ≡ set wish.asked (Cuts node size) → IsDecided journal state request args decision
size_is_set journal state request args wish node size decision found some file same short is =
    let within : nat_lt TEXT_LIMIT (size_for state node wish.size) ≡ false = le-ltb TEXT_LIMIT (size_for state node wish.size) (omega (arith, same, short)) in
    let by_size : setting state wish (Ok node) ≡ set wish.asked (Cuts node (size_for state node wish.size)) = rw within refl in
    subst (IsDecided journal state request args) (sym is) (
      ap (λ (n : ℕ). Some (set wish.asked (Cuts node n))) same ∙ sym (ap Some by_size) ∙ by_file journal state request args wish (Ok node) found some file,
      set_sendable args wish.asked (Cuts node size),
      short,
      tt,
    )
