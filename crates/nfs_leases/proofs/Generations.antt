-- A client can't become live of whose slot a later generation is live.
use Rattle.std.proofs.Common.{ℕ, Bool, true, false, true≢false, eqb-true, not, ◌&&◌, ◌||◌, List, [], ◌∷◌, refl, sym, subst, arith}
use Rattle.std.proofs.lemmas.Bool.Decides.{nat_tests}
use Rattle.std.specs.List.{AllByRecursion, list_any}
use Rattle.std.specs.Prelude.{IsFalse, IsTrue}
use Rattle.nfs_owners.specs.LiveClients.{can_become_live}
use Rattle.nfs_owners.specs.Registry.{AreRecords, HasOwnNumber, Registry, is_last_given, is_live, is_of_client, was_given}
use Rattle.nfs_owners.specs.SlotLaws.{SlotsAreApart}
use Rattle.nfs_owners.specs.Slots.{is_earlier}
use Rattle.nfs_owners.specs.declared.client_record.ClientRecord.{ClientRecord}

abbrev pub EarlierStayGone : Registry → Type 0
EarlierStayGone registry =
    (client later : ℕ) → IsTrue (is_live later registry) → IsTrue (is_earlier client later)
    → IsFalse (can_become_live client registry)

either_test : (P : Type 0) (a b : Bool) → (IsTrue a → P) → (IsTrue b → P) → IsTrue (a || b) → P
either_test P true b h k is = h refl
either_test P false b h k is = k is

-- a client that has one of these records has the last number that was given of its slot
last_given : (registry : Registry) (records : List ClientRecord) → AllByRecursion (HasOwnNumber registry) records
    → (number : ℕ) → IsTrue (list_any (is_of_client number) records) → IsTrue (is_last_given number registry)
last_given registry [] own number has = absurd (true≢false (sym has))
last_given registry (r ∷ records) own number has =
    either_test (IsTrue (is_last_given number registry)) (is_of_client number r)
    (list_any (is_of_client number) records)
    (λ is. subst (λ (n : ℕ). IsTrue (is_last_given n registry)) (eqb-true _ _ is) own.0.0)
    (last_given registry records own.1 number) has

last_was_given : (registry : Registry) (number : ℕ) → IsTrue (is_last_given number registry)
    → IsTrue (was_given number registry)
last_was_given registry number last = grind (arith, nat_tests)

earlier_was_given : (registry : Registry) (client later : ℕ) → IsTrue (is_earlier client later)
    → IsTrue (was_given later registry) → IsTrue (was_given client registry)
earlier_was_given registry client later earlier given = grind (arith, nat_tests)

cannot_become : (given live waits : Bool) → IsTrue given → IsFalse waits → IsFalse (not given || (not live && waits))
cannot_become true true waits h k = refl
cannot_become true false waits h k = k
cannot_become false live waits h k = absurd (true≢false (sym h))

pub earlier_stay_gone : SlotsAreApart → (registry : Registry) → AreRecords registry → EarlierStayGone registry
earlier_stay_gone apart registry records client later live earlier =
    let last = last_given registry registry.confirmed records.confirmed_numbers later live in
    let given = last_was_given registry later last in
    cannot_become (was_given client registry) (is_live client registry)
    (list_any (is_of_client client) registry.unconfirmed)
    (earlier_was_given registry client later earlier given)
    ((apart registry records).1 client later earlier given).1
