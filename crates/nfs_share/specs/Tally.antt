-- How many things of a file each client has, and how many of these are marked.
use Rattle.std.specs.Prelude.{◌≡◌, ℕ, Bool, true, ◌&&◌, ◌==◌, if◌then◌else◌, nat_eq, List, Option, Some, None}
use Rattle.indexmap.specs.IndexMap.{get, spare}
use Rattle.nfs_forms.specs.ClientId.{is_same_client}
use Rattle.nfs_forms.specs.declared.client_id.ClientId.{ClientId}
use Rattle.nfs_share.specs.ShareCounts.{how_many}
use Rattle.nfs_share.specs.declared.count.Count.{Count}
use Rattle.nfs_share.specs.declared.tally.Tally.{Tally}

-- a thing: whose it is, and whether it is marked
pub record Mark : Type 0 where
  pub client : ClientId
  pub marked : Bool

abbrev pub mark_of : ClientId → Bool → Mark
mark_of client marked = record { client = client; marked = marked }

-- the client has the thing
abbrev pub is_own : ClientId → Mark → Bool
is_own client m = is_same_client m.client client

-- how many pass the test, and how many of them are marked
abbrev pub count_of : (Mark → Bool) → List Mark → Count
count_of test marks = record {
  all = how_many test marks;
  marked = how_many (λ m. test m && m.marked) marks;
}

-- what is kept of a count
abbrev pub entry_of : Count → Option Count
entry_of count = if count.all == 0 then None else Some count

-- keys of clients are the same
abbrev pub is_same_key : ℕ × ℕ → ℕ × ℕ → Bool
is_same_key a b = nat_eq a.0 b.0 && nat_eq a.1 b.1

abbrev pub key_of : ClientId → ℕ × ℕ
key_of client = (client.epoch, client.number)

-- the tally has the count of each client's things, where there are some, and that of all
pub record IsTally (tally : Tally) (marks : List Mark) : Type 0 where
  pub own : (client : ClientId)
      → get is_same_key tally.of_client (key_of client) ≡ entry_of (count_of (is_own client) marks)
  pub all : tally.all ≡ count_of (λ m. true) marks

-- so many more clients take no memory
abbrev pub room_of : Tally → ℕ
room_of tally = spare tally.of_client
