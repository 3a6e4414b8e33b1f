-- What one more deed of a client leaves of a seat's list of deeds.
use Rattle.std.proofs.Common.{◌≡◌, ◌≢◌, ℕ, ◌+◌, ◌<◌, ◌≤◌, List, [], ◌∷◌, true, false, true≢false, max, refl, sym, ◌∙◌, arith}
use Rattle.std.proofs.lemmas.Bool.Decides.{nat_tests}
use Rattle.nfs_words.specs.declared.event.Deed.{Deed}
use Rattle.nfs_words.specs.declared.event.Deed.TheVariants.{Look, Renew, Open, Close, Retire}
use Rattle.nfs_words.specs.Deeds.{Phase, Unopened, Standing, Ended, knows, saw_open, wrote, retired}
use Rattle.nfs_words.specs.Words.{IsMoment, closed_part}
use Rattle.nfs_words.specs.Rule.{FitsPhase, AreLawful}
use Rattle.nfs_words.specs.Plays.{IsPartIn}

-- a look at the word as it is
pub look_good : (lease : ℕ) (phase : Phase) (part : ℕ) (deeds : List Deed) → IsPartIn phase part
    → AreLawful lease phase part deeds → AreLawful lease phase part (Look part ∷ deeds)
look_good lease Unopened part deeds is good =
    let u = good.fits in
    let o = good.order in
    record { order = grind (arith, nat_tests, u.0); fits = (grind (arith, nat_tests, u.0), grind (arith, nat_tests, u.1), grind (arith, nat_tests, u.2), u.3) }
look_good lease Standing part deeds is good =
    let u = good.fits in
    let o = good.order in
    let above = is.0 in
    let low = is.1 in
    record { order = grind (arith, nat_tests, u.0, u.1); fits = (grind (arith, nat_tests, u.0), grind (arith, nat_tests, u.1), u.2) }
look_good lease (Ended bound) part deeds is good =
    let u = good.fits in
    let o = good.order in
    record { order = grind (arith, nat_tests); fits = (grind (arith, nat_tests, u.0), u.1) }

saw_knows : (deeds : List Deed) → saw_open deeds ≡ true → knows deeds ≡ true
saw_knows [] h = h
saw_knows (Look part ∷ deeds) h = let r = saw_knows deeds in grind (arith, nat_tests)
saw_knows (Renew moment old ∷ deeds) h = refl
saw_knows (Open moment ∷ deeds) h = refl
saw_knows (Close seen now true ∷ deeds) h = refl
saw_knows (Close seen now false ∷ deeds) h = saw_knows deeds h
saw_knows (Retire ∷ deeds) h = refl

-- what was seen open was opened
pub not_unopened : (part : ℕ) (deeds : List Deed) → FitsPhase Unopened part deeds → saw_open deeds ≡ true → ⊥
not_unopened part deeds under h = true≢false (sym (saw_knows deeds h) ∙ under.0)

pub raise_under : (phase : Phase) (part bound : ℕ) (deeds : List Deed) → FitsPhase phase part deeds
    → FitsPhase phase (max part bound) deeds
raise_under Unopened part bound deeds u = u
raise_under Standing part bound deeds u = (u.0, omega (arith, u.1), u.2)
raise_under (Ended n) part bound deeds u = u

pub raise_good : (lease : ℕ) (phase : Phase) (part moment : ℕ) (deeds : List Deed) → IsPartIn phase part
    → IsMoment moment → saw_open deeds ≡ true → AreLawful lease phase part deeds
    → AreLawful lease phase (max part (moment + 1)) (Renew moment part ∷ deeds)
raise_good lease Unopened part moment deeds is low seen good = absurd (not_unopened part deeds good.fits seen)
raise_good lease Standing part moment deeds is low seen good =
    let u = good.fits in
    let o = good.order in
    let above = is.0 in
    let top = is.1 in
    record { order = grind (arith, nat_tests, u.0, u.1); fits = (grind (arith, nat_tests, u.0), grind (arith, nat_tests, u.1), u.2) }
raise_good lease (Ended bound) part moment deeds is low seen good =
    let u = good.fits in
    let o = good.order in
    record { order = grind (arith, nat_tests); fits = (grind (arith, nat_tests, u.0), u.1) }

pub open_good : (lease part moment : ℕ) (deeds : List Deed) → AreLawful lease Unopened part deeds
    → AreLawful lease Standing (moment + 1) (Open moment ∷ deeds)
open_good lease part moment deeds good =
    let u = good.fits in
    let o = good.order in
    record { order = grind (arith, nat_tests, u.0); fits = (u.1, grind (arith, u.2), u.3) }

pub close_good : (lease seen now : ℕ) (deeds : List Deed) → IsMoment seen → seen + lease < now
    → AreLawful lease Standing (seen + 1) deeds
    → AreLawful lease (Ended (seen + 1)) closed_part (Close seen now true ∷ deeds)
close_good lease seen now deeds low due good =
    let u = good.fits in
    let o = good.order in
    record { order = grind (arith, nat_tests, u.0, u.1); fits = (u.1, omega (arith, u.2)) }

pub try_good : (lease : ℕ) (phase : Phase) (part seen now : ℕ) (deeds : List Deed) → seen + lease < now
    → AreLawful lease phase part deeds → AreLawful lease phase part (Close seen now false ∷ deeds)
try_good lease Unopened part seen now deeds due good = let o = good.order in record { order = grind (arith, nat_tests); fits = good.fits }
try_good lease Standing part seen now deeds due good = let o = good.order in record { order = grind (arith, nat_tests); fits = good.fits }
try_good lease (Ended bound) part seen now deeds due good = let o = good.order in record { order = grind (arith, nat_tests); fits = good.fits }

-- an open lease that ends with the bound k, which its word doesn't pass
pub ends_under : (part bound : ℕ) (deeds : List Deed) → part ≤ bound → bound ≤ closed_part
    → FitsPhase Standing part deeds → FitsPhase (Ended bound) closed_part deeds
ends_under part bound deeds low top u = (omega (arith, u.1), omega (arith, u.2))

pub retire_good : (lease : ℕ) (phase : Phase) (part later_part : ℕ) (deeds : List Deed)
    → FitsPhase (retired phase) later_part deeds → AreLawful lease phase part deeds
    → AreLawful lease (retired phase) later_part (Retire ∷ deeds)
retire_good lease Unopened part later_part deeds u good = record { order = good.order; fits = u }
retire_good lease Standing part later_part deeds u good = record { order = good.order; fits = u }
retire_good lease (Ended bound) part later_part deeds u good = record { order = good.order; fits = u }

pub wrote_open : (moment : ℕ) (deeds : List Deed) → wrote (moment + 1) (Open moment ∷ deeds) ≡ true
wrote_open moment deeds = grind (arith, nat_tests)

pub wrote_raise : (moment part : ℕ) (deeds : List Deed) → part ≢ closed_part
    → wrote (moment + 1) (Renew moment part ∷ deeds) ≡ true
wrote_raise moment part deeds h = grind (arith, nat_tests)

pub wrote_more : (part : ℕ) (deed : Deed) (deeds : List Deed) → wrote part deeds ≡ true
    → wrote part (deed ∷ deeds) ≡ true
wrote_more part (Look n) deeds h = h
wrote_more part (Renew moment old) deeds h = grind (arith, nat_tests)
wrote_more part (Open moment) deeds h = grind (arith, nat_tests)
wrote_more part (Close seen now done) deeds h = h
wrote_more part Retire deeds h = h
