-- The receipts that a journal has.
use Rattle.std.proofs.Common.{◌≡◌, ℕ, zero, suc, ◌+◌, ◌<◌, ◌≤◌, List, [], ◌∷◌, ◌++◌, length, map, Option, Some, None, filter, is_none, option_map, slice_get, refl, ap, sym, ◌∙◌, arith, length-append}
use Rattle.std.proofs.lemmas.List.{append-nil}
use Rattle.std.proofs.lemmas.List.Elements.{filter-append, filter_map-append}
use Rattle.std.proofs.lemmas.Option.{slice_get_within}
use Rattle.std.specs.List.{cons_option, filter_map, zip}
use Rattle.nfs_core.specs.Events.{entry_by}
use Rattle.nfs_core.specs.declared.event.Event.{Event}
use Rattle.nfs_core.specs.declared.event.Event.TheVariants as events
use Rattle.nfs_forms.specs.declared.open_owner.OpenOwner.{OpenOwner}
use Rattle.nfs_leases.specs.BookEvent.{BookEvent, Close}
use Rattle.nfs_shared.specs.Receipts.{calls_in, numbered_calls, receipt_of, receipts_of, others_in}
use Rattle.nfs_leases.specs.Sweeps.{entries_of_sweep, events_of_all, forgettings, revocations}
use Rattle.nfs_leases.specs.Visit.{Visit, expiries}
use Rattle.nfs_leases.specs.declared.closing.Closing.TheVariants as closing
use Rattle.nfs_shared.specs.declared.receipt.Receipt.{Receipt}
use Rattle.nfs_state.specs.Entries.{call_of}
use Rattle.nfs_state.specs.declared.entry.Call.{Call}
use Rattle.nfs_state.specs.declared.entry.Entry.{Entry}
use Rattle.nfs_state.specs.declared.entry.Entry.TheVariants as entries

-- an entry that records a call is this call
call_is : (entry : Entry) (call : Call) → call_of entry ≡ Some call → entry ≡ entries.Call call
call_is (entries.Call c) call is = let same : c ≡ call = cc in ap (λ (x : Call). entries.Call x) same
call_is entry call is = absurd cc

-- a list with an element more at the front, or with none
cons_more : {X : Type 0} (o : Option X) (xs ys : List X) → cons_option o (xs ++ ys) ≡ cons_option o xs ++ ys
cons_more None xs ys = refl
cons_more (Some x) xs ys = refl

cons_length : {X Y : Type 0} (f : X → Y) (o : Option X) (xs : List X) (ys : List Y) → length ys ≡ length xs
    → length (cons_option (option_map f o) ys) ≡ length (cons_option o xs)
cons_length f None xs ys same = same
cons_length f (Some x) xs ys same = ap suc same

cons_within : {X : Type 0} (o : Option X) (xs : List X) (n : ℕ) → length xs ≤ n → length (cons_option o xs) ≤ suc n
cons_within None xs n less = omega (arith, less)
cons_within (Some x) xs n less = omega (arith, less)

-- how many calls there are
calls_in_append : (es more : List Entry) → calls_in (es ++ more) ≡ calls_in es + calls_in more
calls_in_append es more =
    ap (λ (cs : List Call). length cs) (filter_map-append call_of es more)
    ∙ length-append (filter_map call_of es) (filter_map call_of more)

pub calls_in_call : (es : List Entry) (call : Call) → calls_in (es ++ entries.Call call ∷ []) ≡ suc (calls_in es)
calls_in_call es call = omega (arith, calls_in_append es (entries.Call call ∷ []))

pub calls_in_more : (es more : List Entry) → calls_in more ≡ 0 → calls_in (es ++ more) ≡ calls_in es
calls_in_more es more none = omega (arith, none, calls_in_append es more)

pub calls_in_length : (es : List Entry) → calls_in es ≤ length es
calls_in_length [] = omega arith
calls_in_length (e ∷ es) = cons_within (call_of e) (filter_map call_of es) (length es) (calls_in_length es)

-- the ends of clients are no calls
pub expiries_no_calls : (events : List BookEvent) → calls_in (expiries events) ≡ 0
expiries_no_calls [] = refl
expiries_no_calls (Close client seen now closing.Closed ∷ events) = expiries_no_calls events
expiries_no_calls (event ∷ events) = expiries_no_calls events

-- nor are those of delegations
pub revocations_no_calls : (now : ℕ) (numbers : List ℕ) → calls_in (revocations now numbers) ≡ 0
revocations_no_calls now [] = refl
revocations_no_calls now (number ∷ numbers) = revocations_no_calls now numbers

-- nor those by which open owners are forgotten
pub forgettings_no_calls : (now : ℕ) (owners : List OpenOwner) → calls_in (forgettings now owners) ≡ 0
forgettings_no_calls now [] = refl
forgettings_no_calls now (owner ∷ owners) = forgettings_no_calls now owners

-- nor does an event make one
pub event_no_call : (event : Event) → calls_in (entry_by event ∷ []) ≡ 0
event_no_call (events.Expire expire) = refl
event_no_call (events.Revoke revoke) = refl
event_no_call (events.Path path) = refl
event_no_call (events.Forget forget) = refl

pub sweep_no_calls : (now : ℕ) (visits : List Visit) (numbers : List ℕ) (owners : List OpenOwner)
    → calls_in (entries_of_sweep now visits numbers owners) ≡ 0
sweep_no_calls now visits numbers owners =
    let events = events_of_all now visits in
    omega (
      arith,
      calls_in_append (expiries events) (revocations now numbers ++ forgettings now owners),
      calls_in_append (revocations now numbers) (forgettings now owners),
      expiries_no_calls events,
      revocations_no_calls now numbers,
      forgettings_no_calls now owners,
    )

-- how many entries are no calls
others_in_append : (es more : List Entry) → others_in (es ++ more) ≡ others_in es + others_in more
others_in_append es more =
    ap (λ (xs : List Entry). length xs) (filter-append (λ (e : Entry). is_none (call_of e)) es more)
    ∙ length-append (filter (λ (e : Entry). is_none (call_of e)) es) (filter (λ (e : Entry). is_none (call_of e)) more)

pub others_in_call : (es : List Entry) (call : Call) → others_in (es ++ entries.Call call ∷ []) ≡ others_in es
others_in_call es call = omega (arith, others_in_append es (entries.Call call ∷ []))

-- each entry is a call, or none
calls_and_others : (es : List Entry) → calls_in es + others_in es ≡ length es
calls_and_others [] = refl
calls_and_others (entries.Call call ∷ es) = omega (arith, calls_and_others es)
calls_and_others (entries.Expire expire ∷ es) = omega (arith, calls_and_others es)
calls_and_others (entries.Revoke revoke ∷ es) = omega (arith, calls_and_others es)
calls_and_others (entries.Path path ∷ es) = omega (arith, calls_and_others es)
calls_and_others (entries.Forget forget ∷ es) = omega (arith, calls_and_others es)

pub others_in_more : (es more : List Entry) → calls_in more ≡ 0 → others_in (es ++ more) ≡ others_in es + length more
others_in_more es more none = omega (arith, none, others_in_append es more, calls_and_others more)

-- calls with their numbers
numbered_append : (n : ℕ) (es more : List Entry)
    → numbered_calls n (es ++ more) ≡ numbered_calls n es ++ numbered_calls (n + length es) more
numbered_append n [] more = ap (λ (k : ℕ). numbered_calls k more) (omega arith)
numbered_append n (e ∷ es) more =
    let first : Option (ℕ × Call) = option_map (λ call. (n, call)) (call_of e) in
    let after : List (ℕ × Call) = numbered_calls (n + 1) es in
    ap (cons_option first) (numbered_append (n + 1) es more)
    ∙ cons_more first after (numbered_calls (n + 1 + length es) more)
    ∙ ap (λ (k : ℕ). cons_option first after ++ numbered_calls k more) (omega arith)

numbered_length : (n : ℕ) (es : List Entry) → length (numbered_calls n es) ≡ calls_in es
numbered_length n [] = refl
numbered_length n (e ∷ es) =
    cons_length (λ call. (n, call)) (call_of e) (filter_map call_of es) (numbered_calls (n + 1) es)
    (numbered_length (n + 1) es)

-- a numbered call is the entry with this number
abbrev StandsFrom : ℕ → List Entry → ℕ × Call → Type 0
StandsFrom n es x = (m : ℕ) × (x.0 ≡ n + m) × (slice_get es m ≡ Some (entries.Call x.1))

stands_further : (n : ℕ) (e : Entry) (es : List Entry) (x : ℕ × Call) → StandsFrom (n + 1) es x → StandsFrom n (e ∷ es) x
stands_further n e es x h = (suc h.0, omega (arith, h.1), h.2)

stands_first : (n : ℕ) (e : Entry) (o : Option Call) (es : List Entry) (k : ℕ) (x : ℕ × Call)
    → call_of e ≡ o
    → ((j : ℕ) → slice_get (numbered_calls (n + 1) es) j ≡ Some x → StandsFrom (n + 1) es x)
    → slice_get (cons_option (option_map (λ call. (n, call)) o) (numbered_calls (n + 1) es)) k ≡ Some x
    → StandsFrom n (e ∷ es) x
stands_first n e None es k x is rest at = stands_further n e es x (rest k at)
stands_first n e (Some c) es (suc k) x is rest at = stands_further n e es x (rest k at)
stands_first n e (Some c) es zero x is rest at =
    let number : n ≡ x.0 = cc in
    let call : c ≡ x.1 = cc in
    (0, omega (arith, number), ap Some (call_is e x.1 (is ∙ ap Some call)))

numbered_stand : (n : ℕ) (es : List Entry) (k : ℕ) (x : ℕ × Call) → slice_get (numbered_calls n es) k ≡ Some x → StandsFrom n es x
numbered_stand n [] k x at = absurd cc
numbered_stand n (e ∷ es) k x at =
    stands_first n e (call_of e) es k x refl (λ j. numbered_stand (n + 1) es j x) at

-- two of one number stand at one place
one_first : (n : ℕ) (o : Option Call) (es : List Entry) (j k : ℕ) (x y : ℕ × Call)
    → ((i l : ℕ) → slice_get (numbered_calls (n + 1) es) i ≡ Some x → slice_get (numbered_calls (n + 1) es) l ≡ Some y → i ≡ l)
    → slice_get (cons_option (option_map (λ call. (n, call)) o) (numbered_calls (n + 1) es)) j ≡ Some x
    → slice_get (cons_option (option_map (λ call. (n, call)) o) (numbered_calls (n + 1) es)) k ≡ Some y
    → x.0 ≡ y.0 → j ≡ k
one_first n None es j k x y rest at_j at_k same = rest j k at_j at_k
one_first n (Some c) es zero zero x y rest at_j at_k same = refl
one_first n (Some c) es zero (suc k) x y rest at_j at_k same =
    let h = numbered_stand (n + 1) es k y at_k in let first : n ≡ x.0 = cc in absurd (omega (arith, h.1, first, same))
one_first n (Some c) es (suc j) zero x y rest at_j at_k same =
    let h = numbered_stand (n + 1) es j x at_j in let first : n ≡ y.0 = cc in absurd (omega (arith, h.1, first, same))
one_first n (Some c) es (suc j) (suc k) x y rest at_j at_k same = ap suc (rest j k at_j at_k)

numbered_apart : (n : ℕ) (es : List Entry) (j k : ℕ) (x y : ℕ × Call)
    → slice_get (numbered_calls n es) j ≡ Some x → slice_get (numbered_calls n es) k ≡ Some y → x.0 ≡ y.0 → j ≡ k
numbered_apart n [] j k x y at_j at_k same = absurd cc
numbered_apart n (e ∷ es) j k x y at_j at_k same =
    one_first n (call_of e) es j k x y
    (λ i l at_i at_l. numbered_apart (n + 1) es i l x y at_i at_l same) at_j at_k same

-- calls beside places
given_append : (places : List ℕ) (xs : List (ℕ × Call)) (place : ℕ) (x : ℕ × Call) → length places ≡ length xs
    → map receipt_of (zip (places ++ place ∷ []) (xs ++ x ∷ [])) ≡ map receipt_of (zip places xs) ++ receipt_of (place, x) ∷ []
given_append [] [] place x same = refl
given_append [] (y ∷ xs) place x same = absurd (omega (arith, same))
given_append (p ∷ places) [] place x same = absurd (omega (arith, same))
given_append (p ∷ places) (y ∷ xs) place x same =
    ap (λ rs. receipt_of (p, y) ∷ rs) (given_append places xs place x (omega (arith, same)))

given_length : (places : List ℕ) (xs : List (ℕ × Call)) → length places ≡ length xs → length (map receipt_of (zip places xs)) ≡ length xs
given_length [] [] same = refl
given_length [] (y ∷ xs) same = absurd (omega (arith, same))
given_length (p ∷ places) [] same = absurd (omega (arith, same))
given_length (p ∷ places) (y ∷ xs) same = ap suc (given_length places xs (omega (arith, same)))

-- the place and the call of a receipt stand where it does
record IsGiven (places : List ℕ) (xs : List (ℕ × Call)) (k : ℕ) (r : Receipt) : Type 0 where
  pub place : ℕ
  pub call : ℕ × Call
  pub place_at : slice_get places k ≡ Some place
  pub call_at : slice_get xs k ≡ Some call
  pub same : receipt_of (place, call) ≡ r

is_given : (places : List ℕ) (xs : List (ℕ × Call)) (k : ℕ) (r : Receipt) → slice_get (map receipt_of (zip places xs)) k ≡ Some r → IsGiven places xs k r
is_given [] xs k r at = absurd cc
is_given (p ∷ places) [] k r at = absurd cc
is_given (p ∷ places) (x ∷ xs) zero r at = record { place = p; call = x; place_at = refl; call_at = refl; same = cc }
is_given (p ∷ places) (x ∷ xs) (suc k) r at =
    let h = is_given places xs k r at in
    record { place = h.place; call = h.call; place_at = h.place_at; call_at = h.call_at; same = h.same }

-- no call adds no receipt
empty : {X : Type 0} (xs : List X) → length xs ≡ 0 → xs ≡ []
empty [] none = refl
empty (x ∷ xs) none = absurd (omega (arith, none))

pub receipts_more : (n : ℕ) (es more : List Entry) (places : List ℕ) → calls_in more ≡ 0
    → receipts_of n (es ++ more) places ≡ receipts_of n es places
receipts_more n es more places none =
    let nothing = empty (numbered_calls (n + length es) more) (numbered_length (n + length es) more ∙ none) in
    ap (λ (xs : List (ℕ × Call)). map receipt_of (zip places xs))
    (numbered_append n es more
    ∙ ap (λ (xs : List (ℕ × Call)). numbered_calls n es ++ xs) nothing
    ∙ append-nil (numbered_calls n es))

-- a call adds its receipt
pub receipts_call : (n : ℕ) (es : List Entry) (places : List ℕ) (call : Call) (place number : ℕ)
    → length places ≡ calls_in es → number ≡ n + length es
    → receipts_of n (es ++ entries.Call call ∷ []) (places ++ place ∷ [])
    ≡ receipts_of n es places ++ record { place = place; number = number; call = call } ∷ []
receipts_call n es places call place number same is =
    ap (λ (xs : List (ℕ × Call)). map receipt_of (zip (places ++ place ∷ []) xs)) (numbered_append n es (entries.Call call ∷ []))
    ∙ given_append places (numbered_calls n es) place (n + length es, call) (same ∙ sym (numbered_length n es))
    ∙ ap (λ (k : ℕ). receipts_of n es places ++ record { place = place; number = k; call = call } ∷ []) (sym is)

pub receipts_length : (n : ℕ) (es : List Entry) (places : List ℕ) → length places ≡ calls_in es → length (receipts_of n es places) ≡ calls_in es
receipts_length n es places same =
    given_length places (numbered_calls n es) (same ∙ sym (numbered_length n es)) ∙ numbered_length n es

-- the entry of a receipt stands at its number
receipts_found : (n : ℕ) (es : List Entry) (places : List ℕ) (k : ℕ) (r : Receipt) → slice_get (receipts_of n es places) k ≡ Some r
    → (m : ℕ) × (r.number ≡ n + m) × (slice_get es m ≡ Some (entries.Call r.call))
receipts_found n es places k r at =
    let given = is_given places (numbered_calls n es) k r at in
    let h = numbered_stand n es k given.call given.call_at in
    (h.0, ap (λ (x : Receipt). x.number) (sym given.same) ∙ h.1, h.2 ∙ ap (λ (x : Receipt). Some (entries.Call x.call)) given.same)

pub receipts_within : (n : ℕ) (es : List Entry) (places : List ℕ) (k : ℕ) (r : Receipt) → slice_get (receipts_of n es places) k ≡ Some r → (n ≤ r.number) × (r.number < n + length es)
receipts_within n es places k r at =
    let h = receipts_found n es places k r at in
    let less = slice_get_within es h.0 (entries.Call r.call) h.2 in
    (omega (arith, h.1), omega (arith, h.1, less))

pub receipts_stand : (n : ℕ) (es : List Entry) (places : List ℕ) (k : ℕ) (r : Receipt) (m : ℕ) → slice_get (receipts_of n es places) k ≡ Some r → r.number ≡ n + m → slice_get es m ≡ Some (entries.Call r.call)
receipts_stand n es places k r m at is =
    let h = receipts_found n es places k r at in
    ap (slice_get es) (omega (arith, h.1, is)) ∙ h.2

-- two receipts of one number are one
pub receipts_apart : (n : ℕ) (es : List Entry) (places : List ℕ) (j k : ℕ) (q r : Receipt)
    → slice_get (receipts_of n es places) j ≡ Some q → slice_get (receipts_of n es places) k ≡ Some r → q.number ≡ r.number → q ≡ r
receipts_apart n es places j k q r at_j at_k same =
    let one = is_given places (numbered_calls n es) j q at_j in
    let other = is_given places (numbered_calls n es) k r at_k in
    let number : one.call.0 ≡ other.call.0 =
    ap (λ (x : Receipt). x.number) one.same ∙ same ∙ ap (λ (x : Receipt). x.number) (sym other.same) in
    let place : j ≡ k = numbered_apart n es j k one.call other.call one.call_at other.call_at number in
    let here = ap (slice_get (receipts_of n es places)) place in
    cc (at_j, at_k, here)
