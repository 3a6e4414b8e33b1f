-- READDIR (RFC 7530, section 16.24): lists the children of the current directory; the state doesn't change.
use Rattle.std.specs.Prelude.{ℕ, zero, suc, ◌==◌, nat_le, Bool, not, ◌&&◌, List, [], ◌∷◌, length, map, min, take, Option, Some, None, Result, Ok, Err, if◌then◌else◌}
use Rattle.std.specs.Str.{bytes_eq}
use Rattle.nfs_forms.specs.Answer.{PlainAnswer}
use Rattle.nfs_forms.specs.declared.answer.Answer.TheVariants.{Done, Refused}
use Rattle.nfs_forms.specs.declared.status.Refusal.{Refusal}
use Rattle.nfs_forms.specs.declared.status.Refusal.TheVariants as refusals
use Rattle.nfs_forms.specs.declared.verifier.Verifier.{Verifier}
use Rattle.nfs_operations.specs.Readdir.{readdir_ok}
use Rattle.nfs_operations.specs.declared.readdir.DirectoryEntry.{DirectoryEntry}
use Rattle.nfs_operations.specs.declared.readdir.Readdir.{Readdir}
use Rattle.nfs_operations.specs.declared.readdir.ReaddirOk.{ReaddirOk}
use Rattle.nfs_rules.specs.Refusing.{◌>>=◌, first_refusal, refused_if}
use Rattle.nfs_rules.specs.declared.decision.Decision.{Decision}
use Rattle.nfs_rules.specs.declared.operations.readdir.TheConstants.{LISTING_LIMIT}
use Rattle.nfs_rules.specs.operations.Getattr.{subject_of}
use Rattle.nfs_rules.specs.operations.Lockt.{place_of}
use Rattle.nfs_state.specs.Changes.{change_alone}
use Rattle.nfs_state.specs.State.{State, History}
use Rattle.nfs_state.specs.declared.change.Change.TheVariants.{Nothing}
use Rattle.nfs_tree.specs.Attributes.{attributes_of, is_readable}
use Rattle.nfs_tree.specs.Children.{children_after, cookie_of, is_cookie, name_of}
use Rattle.nfs_tree.specs.Tree.{is_directory}
use Rattle.nfs_xdr.specs.declared.op_result.OpResult.TheVariants as results

-- The verifier that is given, and given back with each cookie but the first: eight zeros, as no cookie ever comes to
-- mean another child.
abbrev pub no_verifier : Verifier
no_verifier = record { 0 = 0 ∷ 0 ∷ 0 ∷ 0 ∷ 0 ∷ 0 ∷ 0 ∷ 0 ∷ [] }

-- Why a directory isn't listed from there on: an attribute is asked for that can only be set; the cookie is none of its
-- listing's; the verifier isn't the one that was given with the cookie.
abbrev pub before_listing : History → Readdir → ℕ → List (Bool × Refusal)
before_listing journal args directory =
    (not (is_readable journal.policy.profile args.mask), refusals.Inval)
    ∷ (not (is_cookie journal.nodes directory args.cookie), refusals.BadCookie)
    ∷ (not (args.cookie == 0) && not (bytes_eq args.verifier.0 no_verifier.0), refusals.NotSame)
    ∷ []

-- The directory that is listed, or the first refusal: NFS4ERR_NOFILEHANDLE, NFS4ERR_NOTDIR for a file, and those above.
abbrev pub directory_for : History → Option ℕ → Readdir → Result ℕ Refusal
directory_for journal filehandle args =
    place_of filehandle >>= λ node.
    refused_if (not (is_directory journal.nodes node)) refusals.NotDir node >>= λ directory.
    first_refusal (before_listing journal args directory) directory

-- a child's entry: its cookie, its name, and of its own attributes those that GETATTR answers
abbrev pub entry_of : History → State → List ℕ → ℕ → DirectoryEntry
entry_of journal state mask child = record {
  cookie = cookie_of child;
  name = name_of journal.nodes child;
  attributes = attributes_of (subject_of journal state child) mask;
}

-- the entries of the children behind the cookie, by rising number
abbrev pub entries_for : History → State → Readdir → ℕ → List DirectoryEntry
entries_for journal state args directory =
    map (entry_of journal state args.mask) (children_after journal.nodes directory args.cookie)

-- the answer with the first so many of the entries; where these are all, nothing comes after them (eof)
abbrev pub beginning : List DirectoryEntry → ℕ → ReaddirOk
beginning entries number = record {
  verifier = no_verifier;
  entries = take number entries;
  eof = number == length entries;
}

-- all that XDR writes of the answer is within maxcount, and within the server's own limit
abbrev pub fits : ℕ → ReaddirOk → Bool
fits maxcount answer = nat_le (length (readdir_ok.encoding answer)) (min maxcount LISTING_LIMIT)

-- the greatest number up to this one that passes the test
abbrev pub greatest : (ℕ → Bool) → ℕ → Option ℕ
greatest passes zero = if passes 0 then Some 0 else None
greatest passes (suc n) = if passes (suc n) then Some (suc n) else greatest passes n

-- NFS4ERR_TOOSMALL where not even an answer without an entry fits, or where there are entries, and it has none
abbrev pub listing_with : List DirectoryEntry → Option ℕ → PlainAnswer ReaddirOk
listing_with entries None = Refused refusals.TooSmall
listing_with entries (Some number) =
    if number == 0 && not (length entries == 0) then Refused refusals.TooSmall
    else Done (beginning entries number)

-- as many of the entries, from the first on, as fit
abbrev pub listing : ℕ → List DirectoryEntry → PlainAnswer ReaddirOk
listing maxcount entries =
    listing_with entries
    (greatest (λ number. fits maxcount (beginning entries number)) (length entries))

abbrev pub listed : History → State → Readdir → Result ℕ Refusal → PlainAnswer ReaddirOk
listed journal state args (Err refusal) = Refused refusal
listed journal state args (Ok directory) =
    listing args.maxcount (entries_for journal state args directory)

abbrev pub answer_of : History → State → Option ℕ → Readdir → PlainAnswer ReaddirOk
answer_of journal state filehandle args =
    listed journal state args (directory_for journal filehandle args)

-- the rule of READDIR; there is always a decision
abbrev pub rule : History → State → Option ℕ → Readdir → Option Decision
rule journal state filehandle args =
    let answer = results.Readdir (answer_of journal state filehandle args) in
    Some (record { answer = answer; effect = change_alone Nothing })
