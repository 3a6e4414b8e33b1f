-- A receipt more, in the list of its seat and in the register.
use Rattle.std.proofs.Common.{◌≡◌, ℕ, ◌<◌, List, [], ◌∷◌, ◌++◌, length, Option, Some, slice_get, refl, sym, ap, ◌∙◌, subst, arith}
use mathlib.Core.List.{IsPrefix}
use Rattle.nfs_core.specs.Server.{Enters, Server}
use Rattle.nfs_shared.specs.Receipts.{IsAbove, calls_in, receipts_of}
use Rattle.nfs_shared.specs.Seats.{LastStands}
use Rattle.nfs_shared.specs.declared.receipt.Receipt.{Receipt}
use Rattle.nfs_shared.proofs.Prefixes.{prefix_get}
use Rattle.nfs_shared.proofs.Receipts.{receipts_length, receipts_within}
use Rattle.nfs_state.specs.State.{History}
use Rattle.nfs_state.specs.declared.entry.Call.{Call}
use Rattle.nfs_state.specs.declared.entry.Entry.{Entry}
use Rattle.nfs_state.specs.declared.entry.Entry.TheVariants as entries

pub slice_get_end : {A : Type 0} (xs : List A) (x : A) → slice_get (xs ++ x ∷ []) (length xs) ≡ Some x
slice_get_end [] x = refl
slice_get_end (y ∷ ys) x = slice_get_end ys x

-- what was entered last stands at its number
pub last_entry : (old new : Server) (entry : Entry) (number : ℕ) → Enters old new entry number → slice_get new.journal.entries number ≡ Some entry
last_entry old new entry number enters =
    ap (slice_get new.journal.entries) enters.0
    ∙ ap (λ (j : History). slice_get j.entries (length old.journal.entries)) enters.1
    ∙ slice_get_end old.journal.entries entry

-- at one place stands one call
pub one_call : (es : List Entry) (number : ℕ) (a b : Call) → slice_get es number ≡ Some (entries.Call a) → slice_get es number ≡ Some (entries.Call b) → a ≡ b
one_call es number a b at also = cc (at, also)

-- the receipt that was added last is the last
pub last_added : (whole list : List Receipt) (r : Receipt) (last : Option ℕ) → list ≡ whole ++ r ∷ [] → last ≡ Some r.number → LastStands last list
last_added whole list r last is last_is n e =
    (length whole, r, subst (λ (xs : List Receipt). slice_get xs (length whole) ≡ Some r) (sym is) (slice_get_end whole r), cc)

-- a number above those of all receipts is above the last of a seat's
pub above_last : (whole list : List Receipt) (number : ℕ) (last : Option ℕ) → IsPrefix list whole → IsAbove number whole → LastStands last list → (n : ℕ) → last ≡ Some n → n < number
above_last whole list number last begins above stands n e =
    let s = stands n e in
    let less = above s.0 s.1 (prefix_get list whole s.0 s.1 begins s.2) in
    omega (arith, s.3, less)

pub goes_on : (whole list : List Receipt) (r : Receipt) (new : List Receipt) → IsPrefix list whole → new ≡ whole ++ r ∷ [] → (between : List Receipt) × (new ≡ (list ++ between) ++ r ∷ [])
goes_on whole list r new begins is = (begins.0, is ∙ ap (λ xs. xs ++ r ∷ []) (sym begins.1))

-- all receipts of a journal are below the next number
pub above_all : (es : List Entry) (places : List ℕ) (list : List Receipt) (number : ℕ) → list ≡ receipts_of 0 es places → number ≡ length es → IsAbove number list
above_all es places list number is number_is k r at =
    let within = receipts_within 0 es places k r (subst (λ (xs : List Receipt). slice_get xs k ≡ Some r) is at) in
    omega (arith, within.1)

-- there are as many receipts as places
pub counted : (es : List Entry) (places : List ℕ) (list : List Receipt) → list ≡ receipts_of 0 es places → length places ≡ calls_in es → length list ≡ length places
counted es places list is same = ap length is ∙ receipts_length 0 es places same ∙ sym same
