-- The file of a journal.
use Rattle.std.specs.Prelude.{◌≡◌, ℕ, ◌==◌, List, [], ◌∷◌, Some}
use Rattle.std.proofs.Common.{refl}
use Rattle.std.specs.List.{find}
use Rattle.nfs_state.specs.EntryForm.{entry}
use Rattle.nfs_tree.specs.NodeForm.{node}
use Rattle.nfs_tree.specs.PolicyForm.{callbacks, close_locks, delegations}
use Rattle.nfs_tree.specs.declared.policy.CloseLocks.TheVariants.{Free}
use Rattle.nfs_tree.specs.declared.profile.Profile.{Profile}
use Rattle.nfs_tree.specs.declared.profile.Profile.TheVariants.{Plain, Clients}
use Rattle.nfs_journal.specs.declared.file.File.{File}
use Rattle.nfs_journal.specs.declared.opening.Edition.{Edition}
use Rattle.nfs_journal.specs.declared.opening.Edition.TheVariants as editions
use Rattle.nfs_journal.specs.declared.opening.Opening.{Opening}
use Rattle.nfs_journal.specs.declared.opening.Opening.TheVariants as openings
use Rattle.nfs_journal.specs.declared.opening.SecondStart.{SecondStart}
use Rattle.nfs_journal.specs.declared.opening.Start.{Start}
use Rattle.nfs_journal.specs.declared.opening.ThirdStart.{ThirdStart}
use Rattle.xdr.specs.Form.{Form, ◌and◌, of, constant, enumeration, many, u32}
use Rattle.xdr.specs.Layout.{NO_LIMIT}
use Rattle.xdr.specs.Switch.{Case, Content, case, Arm, arm_in, Agrees, IsRead}
use Rattle.xdr.specs.Union.{switch}

-- the ASCII texts `RC03`, `RN02` and `RN03`
abbrev pub number_of : Edition → ℕ
number_of editions.Clients = 0x5243_3033
number_of editions.Second = 0x524e_3032
number_of editions.Third = 0x524e_3033

abbrev pub all_editions : List Edition
all_editions = editions.Clients ∷ editions.Second ∷ editions.Third ∷ []

pub known : (e : Edition) → find (λ v. number_of v == number_of e) all_editions ≡ Some e
known editions.Clients = refl
known editions.Second = refl
known e = refl

unfoldable pub edition : Form Edition
edition = enumeration number_of all_editions known

-- struct { u32 epoch; u32 lease; delegations; callbacks; }
unfoldable pub second : Form SecondStart
second = of (λ p. record { epoch = p.0; lease = p.1.0; delegations = p.1.1.0; callbacks = p.1.1.1 })
    (λ s. (s.epoch, (s.lease, (s.delegations, s.callbacks)))) (λ p. refl) (λ s. refl)
    (u32 and u32 and delegations and callbacks)

-- struct { u32 epoch; u32 lease; delegations; callbacks; close_locks; }
unfoldable pub third : Form ThirdStart
third = of (λ p. record {
  epoch = p.0;
  lease = p.1.0;
  delegations = p.1.1.0;
  callbacks = p.1.1.1.0;
  close_locks = p.1.1.1.1;
})
    (λ s. (s.epoch, (s.lease, (s.delegations, (s.callbacks, s.close_locks)))))
    (λ p. refl) (λ s. refl) (u32 and u32 and delegations and callbacks and close_locks)

-- union switch (edition)
abbrev pub start_case : Edition → Case Opening
start_case editions.Clients = case third openings.Clients
start_case editions.Second = case second openings.Second
start_case editions.Third = case third openings.Third

abbrev row : (e : Edition) → Content (start_case e) → Edition × Arm Opening
row e content = (e, arm_in (start_case e) content)

abbrev pub row_of : Opening → Edition × Arm Opening
row_of (openings.Clients start) = row editions.Clients start
row_of (openings.Second start) = row editions.Second start
row_of (openings.Third start) = row editions.Third start

abbrev pub edition_of : Opening → Edition
edition_of o = (row_of o).0

abbrev pub start_arm : Opening → Arm Opening
start_arm o = (row_of o).1

pub start_agrees : (e : Edition) → Agrees edition_of start_arm e (start_case e)
start_agrees editions.Clients = λ v. (refl, refl)
start_agrees editions.Second = λ v. (refl, refl)
start_agrees e = λ v. (refl, refl)

pub start_is_read : (o : Opening) → IsRead start_case edition_of start_arm o
start_is_read (openings.Clients start) = record { is = refl; reads = λ bytes. refl }
start_is_read (openings.Second start) = record { is = refl; reads = λ bytes. refl }
start_is_read o = record { is = refl; reads = λ bytes. refl }

-- the ASCII text `NFSJ`, the edition, and what it has
unfoldable pub opening : Form Opening
opening = of (λ p. p.1) (λ o. (tt, o)) (λ p. refl) (λ o. refl)
    (constant 0x4e46_534a and switch edition start_case edition_of start_arm start_agrees start_is_read)

-- what a server of this profile began with, beside its tree
abbrev pub of_profile : Profile → ThirdStart → Start
of_profile profile start = record {
  epoch = start.epoch;
  lease = start.lease;
  policy = record {
    delegations = start.delegations;
    callbacks = start.callbacks;
    close_locks = start.close_locks;
    profile = profile;
  };
}

-- What the server began with, beside its tree. The letters tell the profile. Before the third edition CLOSE freed what
-- was locked.
abbrev pub start_of : Opening → Start
start_of (openings.Clients start) = of_profile Clients start
start_of (openings.Second start) = record {
  epoch = start.epoch;
  lease = start.lease;
  policy = record {
    delegations = start.delegations;
    callbacks = start.callbacks;
    close_locks = Free;
    profile = Plain;
  };
}
start_of (openings.Third start) = of_profile Plain start

-- struct { opening; node nodes<>; entry entries<>; }
unfoldable pub file : Form File
file = of (λ p. record { opening = p.0; nodes = p.1.0; entries = p.1.1 }) (λ f. (f.opening, (f.nodes, f.entries)))
    (λ p. refl) (λ f. refl) (opening and many NO_LIMIT node and many NO_LIMIT entry)
