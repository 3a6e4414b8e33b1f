-- The attributes of a node (RFC 7530, section 5).
use Rattle.std.specs.Prelude.{codes, ℕ, ◌+◌, ◌*◌, ◌%◌, ◌^◌, ◌==◌, Bool, true, false, not, if◌then◌else◌, List, [], ◌∷◌, ◌++◌, get_or, bit_and}
use Rattle.nfs_forms.specs.declared.fattr.Fattr.{Fattr}
use Rattle.xdr.specs.Writing.{written_u32, written_u64, written_flag, written_opaque}
use Rattle.nfs_tree.specs.declared.attribute.Attribute.{Attribute}
use Rattle.nfs_tree.specs.declared.attribute.Attribute.TheVariants as attributes
use Rattle.nfs_tree.specs.declared.attribute.Words.{Words}
use Rattle.nfs_tree.specs.declared.path.TheConstants.{NAME_LIMIT}
use Rattle.nfs_tree.specs.declared.profile.Profile.{Profile}
use Rattle.nfs_tree.specs.declared.profile.Profile.TheVariants.{Plain, Clients}
use Rattle.nfs_tree.specs.declared.subject.Subject.{Subject}
use Rattle.nfs_tree.specs.declared.tree.TheConstants.{FILE_LIMIT, TEXT_LIMIT}
use Rattle.nfs_tree.specs.Tree.{handle_of}

-- the number of an attribute
abbrev pub number_of : Attribute → ℕ
number_of attributes.SupportedAttrs = 0
number_of attributes.Type = 1
number_of attributes.FhExpireType = 2
number_of attributes.Change = 3
number_of attributes.Size = 4
number_of attributes.LinkSupport = 5
number_of attributes.SymlinkSupport = 6
number_of attributes.NamedAttr = 7
number_of attributes.Fsid = 8
number_of attributes.UniqueHandles = 9
number_of attributes.LeaseTime = 10
number_of attributes.RdattrError = 11
number_of attributes.Filehandle = 19
number_of attributes.Fileid = 20
number_of attributes.FilesAvail = 21
number_of attributes.FilesFree = 22
number_of attributes.FilesTotal = 23
number_of attributes.Maxfilesize = 27
number_of attributes.Maxname = 29
number_of attributes.Maxread = 30
number_of attributes.Maxwrite = 31
number_of attributes.Mode = 33
number_of attributes.Numlinks = 35
number_of attributes.Owner = 36
number_of attributes.OwnerGroup = 37
number_of attributes.SpaceAvail = 42
number_of attributes.SpaceFree = 43
number_of attributes.SpaceTotal = 44
number_of attributes.SpaceUsed = 45
number_of attributes.TimeAccess = 47
number_of attributes.TimeMetadata = 52
number_of attributes.TimeModify = 53
number_of attributes.TimeModifySet = 54

-- The bit of the attribute with a number, in its word of a bitmap. The first word has the bits of the numbers below 32,
-- the second those of the next 32, and each other word, if there is one, those of 32 more.
abbrev pub bit_of_number : ℕ → ℕ
bit_of_number number = 2 ^ (number % 32)

abbrev pub bit_of : Attribute → ℕ
bit_of attribute = bit_of_number (number_of attribute)

-- The attributes that can be read, in increasing order of their numbers: those in the first word of a bitmap, and those
-- in the second.
abbrev pub plain_attributes : List Attribute
plain_attributes =
    attributes.SupportedAttrs ∷ attributes.Type ∷ attributes.FhExpireType ∷ attributes.Change
    ∷ attributes.Size
    ∷ attributes.LinkSupport ∷ attributes.SymlinkSupport ∷ attributes.NamedAttr ∷ attributes.Fsid
    ∷ attributes.UniqueHandles
    ∷ attributes.LeaseTime ∷ attributes.RdattrError ∷ attributes.Filehandle ∷ attributes.Fileid ∷ []

abbrev pub first_attributes : Profile → List Attribute
first_attributes Plain = plain_attributes
first_attributes Clients = plain_attributes
    ++ attributes.FilesAvail ∷ attributes.FilesFree ∷ attributes.FilesTotal
    ∷ attributes.Maxfilesize
    ∷ attributes.Maxname ∷ attributes.Maxread ∷ attributes.Maxwrite ∷ []

abbrev pub second_attributes : Profile → List Attribute
second_attributes Plain = []
second_attributes Clients =
    attributes.Mode ∷ attributes.Numlinks ∷ attributes.Owner ∷ attributes.OwnerGroup
    ∷ attributes.SpaceAvail
    ∷ attributes.SpaceFree ∷ attributes.SpaceTotal ∷ attributes.SpaceUsed ∷ attributes.TimeAccess
    ∷ attributes.TimeMetadata
    ∷ attributes.TimeModify ∷ []

-- the word with the bits of these attributes
abbrev pub word_of : List Attribute → ℕ
word_of [] = 0
word_of (attribute ∷ more) = bit_of attribute + word_of more

-- the words with the bits of all attributes that can be read, and of all that are supported: under the profile for
-- clients these are, beside them, one that can only be set
abbrev pub readable : Profile → Words
readable profile = record {
  first = word_of (first_attributes profile);
  second = word_of (second_attributes profile);
}

abbrev pub supported : Words
supported = record {
  first = word_of (first_attributes Clients);
  second = word_of (second_attributes Clients ++ attributes.TimeModifySet ∷ []);
}

-- the first two words of a bitmap, where one behind its end is 0
abbrev pub words_of : List ℕ → Words
words_of mask = record { first = get_or mask 0 0; second = get_or mask 1 0 }

-- the bits that both have
abbrev pub common : Words → Words → Words
common asked known = record {
  first = bit_and asked.first known.first;
  second = bit_and asked.second known.second;
}

-- a bitmap of these words, without a word that is 0 at its end
abbrev pub mask_of_first : ℕ → List ℕ
mask_of_first first = if first == 0 then [] else first ∷ []

abbrev pub mask_of : Words → List ℕ
mask_of words =
    if words.second == 0 then mask_of_first words.first else words.first ∷ words.second ∷ []

-- a number that belongs to a file; a directory has 0
abbrev pub of_file : Subject → ℕ → ℕ
of_file s number = if s.is_directory then 0 else number

-- the supported attributes, as a bitmap
abbrev pub written_supported : Profile → List ℕ
written_supported Plain = written_u32 1 ++ written_u32 (readable Plain).first
written_supported Clients =
    written_u32 2 ++ (written_u32 supported.first ++ written_u32 supported.second)

-- a time: seconds, and no nanoseconds
abbrev pub written_time : ℕ → List ℕ
written_time seconds = written_u64 seconds ++ written_u32 0

-- Whoever comes may read and write a file (rw-rw-rw-), and read and search a directory (r-xr-xr-x).
abbrev pub mode_of : Subject → ℕ
mode_of s = if s.is_directory then 365 else 438

-- The bytes of an attribute's value. There is no room for further files and bytes. Time is counted in changes.
abbrev pub value_of : Subject → Attribute → List ℕ
value_of s attributes.SupportedAttrs = written_supported s.profile
value_of s attributes.Type = written_u32 (if s.is_directory then 2 else 1)
value_of s attributes.FhExpireType = written_u32 0
value_of s attributes.Change = written_u64 (of_file s s.change)
value_of s attributes.Size = written_u64 (of_file s s.size)
value_of s attributes.LinkSupport = written_flag false
value_of s attributes.SymlinkSupport = written_flag false
value_of s attributes.NamedAttr = written_flag false
value_of s attributes.Fsid = written_u64 1 ++ written_u64 0
value_of s attributes.UniqueHandles = written_flag true
value_of s attributes.LeaseTime = written_u32 s.lease
value_of s attributes.RdattrError = written_u32 0
value_of s attributes.Filehandle = written_opaque (handle_of s.node)
value_of s attributes.Fileid = written_u64 (s.node + 1)
value_of s attributes.FilesAvail = written_u64 0
value_of s attributes.FilesFree = written_u64 0
value_of s attributes.FilesTotal = written_u64 s.nodes
value_of s attributes.Maxfilesize = written_u64 TEXT_LIMIT
value_of s attributes.Maxname = written_u32 NAME_LIMIT
value_of s attributes.Maxread = written_u64 TEXT_LIMIT
value_of s attributes.Maxwrite = written_u64 TEXT_LIMIT
value_of s attributes.Mode = written_u32 (mode_of s)
value_of s attributes.Numlinks = written_u32 1
value_of s attributes.Owner = written_opaque (codes "0")
value_of s attributes.OwnerGroup = written_opaque (codes "0")
value_of s attributes.SpaceAvail = written_u64 0
value_of s attributes.SpaceFree = written_u64 0
value_of s attributes.SpaceTotal = written_u64 (FILE_LIMIT * TEXT_LIMIT)
value_of s attributes.SpaceUsed = written_u64 (of_file s s.size)
value_of s attributes.TimeAccess = written_time 0
value_of s attributes.TimeMetadata = written_time (of_file s s.change)
value_of s attributes.TimeModify = written_time (of_file s s.change)
value_of s attributes.TimeModifySet = []

-- the attribute's bit is set in its word
abbrev pub has : ℕ → Attribute → Bool
has word attribute = not (bit_and word (bit_of attribute) == 0)

-- the value of an attribute if its word asks for it, and otherwise no bytes
abbrev pub value_requested : Subject → ℕ → Attribute → List ℕ
value_requested s word attribute = if has word attribute then value_of s attribute else []

-- the values of those of these attributes of one word for which it asks
abbrev pub values_in : Subject → ℕ → List Attribute → List ℕ
values_in s word [] = []
values_in s word (attribute ∷ more) = value_requested s word attribute ++ values_in s word more

abbrev pub values_of : Subject → Words → List ℕ
values_of s words = values_in s words.first (first_attributes s.profile)
    ++ values_in s words.second (second_attributes s.profile)

-- the attributes that can be read among those that a bitmap asks for, with their values
abbrev pub attributes_of : Subject → List ℕ → Fattr
attributes_of s mask = record {
  mask = mask_of (common (words_of mask) (readable s.profile));
  values = values_of s (common (words_of mask) (readable s.profile));
}

-- A bitmap can be asked for. Under the profile for clients it can't if it has the bit of an attribute that can only be
-- set: that of time_access_set, with number 48, or of time_modify_set.
abbrev pub set_only : ℕ
set_only = bit_of_number 48 + bit_of attributes.TimeModifySet

abbrev pub is_readable : Profile → List ℕ → Bool
is_readable Plain mask = true
is_readable Clients mask = bit_and (words_of mask).second set_only == 0
