-- The command line of the program: what its words ask the program to do.
use Rattle.std.specs.Prelude.{◌≡◌, ◌≢◌, ◌≤◌, ◌⊎◌, ◌∷◌, ◌++◌, [], ℕ, Bool, IfSome, IsFalse, IsSome, IsTrue, List, Option, Some, None, codes, false, if◌then◌else◌, option_map, true, unwrap_or, ⊤}
use Rattle.std.specs.Borrow.{Bor}
use Rattle.std.specs.Option.{option_map_or}
use Rattle.std.specs.Str.{bytes_eq}
use Rattle.std.specs.Str.Parse.{IsNumeral, digits_value}
use Rattle.clap.specs.Words.{App, Row, Rule, Text, fault_of, first_of, new_app, new_rule, subcommand_of, with_rule, with_subcommand, IsAmong, Kinds}
use Rattle.clap.specs.Simple.{on_top}
use Rattle.clap.specs.declared.builder.action.ArgAction.TheVariants.{SetTrue}
use Rattle.clap.specs.declared.error.kind.ErrorKind.{ErrorKind}
use Rattle.clap.specs.declared.error.kind.ErrorKind.TheVariants.{DisplayHelp, OutOfMemory}
use Rattle.nfs_options.specs.declared.declined.Declined.{Declined}
use Rattle.nfs_options.specs.declared.declined.Declined.TheVariants as declined
use Rattle.nfs_options.specs.declared.name.Name.{Name}
use Rattle.nfs_options.specs.declared.name.Name.TheVariants as name
use Rattle.nfs_options.specs.declared.once_options.OnceOptions.{OnceOptions}
use Rattle.nfs_options.specs.declared.serve_options.ServeOptions.{ServeOptions}
use Rattle.nfs_options.specs.declared.until.Until.{Until}
use Rattle.nfs_options.specs.declared.until.Until.TheVariants as until
use Rattle.nfs_options.specs.declared.command_line.Subcommand.{Subcommand}
use Rattle.nfs_options.specs.declared.command_line.Subcommand.TheVariants as subcommand
use Rattle.nfs_state.specs.declared.journal.TheConstants.{LEASE_MIN, LEASE_MAX}

-- ---- the command by which clap reads the words

-- `--NAME VALUE` or `--NAME=VALUE`, at most once
abbrev pub option_rule : Text → Rule
option_rule name = record (new_rule name) { long = Some name; value_names = 1 }

-- `--NAME`, at most once
abbrev pub flag_rule : Text → Rule
flag_rule name = record (new_rule name) { long = Some name; action = Some SetTrue }

-- a word of its own, that has to be given, once
abbrev pub word_rule : Text → Rule
word_rule name = record (new_rule name) { value_names = 1; required = true }

-- an app with options of these names as well
abbrev pub with_options : List Text → App → App
with_options [] app = app
with_options (name ∷ names) app = with_options names (with_rule app (option_rule name))

-- the options that say which core there is: its tree, its lease and its epoch
abbrev pub core_options : List Text
core_options = codes "tree" ∷ codes "lease" ∷ codes "epoch" ∷ []

-- `once`, with its options
abbrev pub once : App
once = with_options (core_options ++ codes "now" ∷ codes "journal" ∷ []) (new_app (codes "once"))

-- `serve`, with its options, and with flags for when it ends
abbrev pub serve : App
serve = with_options (core_options ++ codes "journal" ∷ codes "memory" ∷ [])
    (with_rule (with_rule (with_rule (with_options (codes "listen" ∷ codes "connections" ∷ [])
    (new_app (codes "serve"))) (flag_rule (codes "until-input-ends")))
    (flag_rule (codes "until-killed"))) (flag_rule (codes "orders")))

-- `audit`, with its file
abbrev pub audit : App
audit = with_rule (new_app (codes "audit")) (word_rule (codes "file"))

-- the program: its subcommands, no options of its own except clap's help, and no subcommand `help`
abbrev pub program : App
program = with_subcommand (with_subcommand (with_subcommand
    (on_top (λ s. record s { disable_help_subcommand = true }) (new_app (codes "nfs4state")))
    once.top) serve.top) audit.top

-- the subcommand of this name: clap accepts no other name than these three
abbrev pub name_of : Text → Name
name_of text =
    if bytes_eq text (codes "audit") then name.Audit
    else if bytes_eq text (codes "serve") then name.Serve
    else name.Once

-- the text of an option's value, if the option is present
abbrev pub text_of : Option (Bor Text) → Option Text
text_of = option_map (λ s. s.now)

-- the flag of this name is given, for which clap then notes "true"
abbrev pub is_given : Text → List Row → Bool
is_given name rows = option_map_or (λ noted. bytes_eq noted (codes "true")) (first_of name rows) false

-- ---- numbers and defaults

-- n is the number that the text gives in decimal digits, with nothing else, and is within the limits
abbrev pub SpellsWithin : ℕ → ℕ → Text → ℕ → Type 0
SpellsWithin least most text n =
    IsNumeral 10 text × (digits_value 10 text ≡ n) × (least ≤ n) × (n ≤ most)

-- n is the number of an option: the one that its value gives, or the default if the option is absent
abbrev pub IsNumber : ℕ → ℕ → ℕ → Option Text → ℕ → Type 0
IsNumber least most default None n = n ≡ default
IsNumber least most default (Some text) n = SpellsWithin least most text n

-- an option is present, and its value is not a number within the limits
abbrev pub IsNoNumber : ℕ → ℕ → Option Text → Type 0
IsNoNumber least most None = ⊥
IsNoNumber least most (Some text) = (n : ℕ) → SpellsWithin least most text n → ⊥

abbrev pub lease_default : ℕ
lease_default = 90

abbrev pub epoch_default : ℕ
epoch_default = 1

abbrev pub epoch_max : ℕ
epoch_max = 4294967295

-- how many connections without `--connections`: in a run that goes on as many at once as there may be
abbrev pub connections_default : Option Until → ℕ
connections_default None = 4
connections_default (Some until) = 64

abbrev pub connections_max : ℕ
connections_max = 64

abbrev pub memory_max : ℕ
memory_max = 1048576

abbrev pub moment_default : ℕ
moment_default = 0

abbrev pub moment_max : ℕ
moment_max = 1099511627773

abbrev pub listen_default : Text
listen_default = codes "127.0.0.1:2049"

-- ---- what the words ask the program to do

-- until when `serve` goes on, if a flag says so; `--orders` stands for `--until-input-ends`, too
abbrev pub IsUntil : List Row → Option Until → Type 0
IsUntil rows None = IsFalse (is_given (codes "until-input-ends") rows)
    × IsFalse (is_given (codes "orders") rows)
    × IsFalse (is_given (codes "until-killed") rows)
IsUntil rows (Some until.InputEnds) = IsTrue (is_given (codes "until-input-ends") rows)
    × IsFalse (is_given (codes "orders") rows)
    × IsFalse (is_given (codes "until-killed") rows)
IsUntil rows (Some until.OrdersEnd) = IsTrue (is_given (codes "orders") rows)
    × IsFalse (is_given (codes "until-killed") rows)
IsUntil rows (Some until.Killed) = IsFalse (is_given (codes "until-input-ends") rows)
    × IsFalse (is_given (codes "orders") rows)
    × IsTrue (is_given (codes "until-killed") rows)

-- `--until-killed` is given, and so is a flag for an input that ends
abbrev pub IsBoth : List Row → Type 0
IsBoth rows = IsTrue (is_given (codes "until-killed") rows)
    × (IsTrue (is_given (codes "until-input-ends") rows)
    ⊎ IsTrue (is_given (codes "orders") rows))

-- as many connections as `--connections` gives, or the default
abbrev pub IsConnections : List Row → Option Until → ℕ → Type 0
IsConnections rows until =
    IsNumber 1 connections_max (connections_default until) (first_of (codes "connections") rows)

-- the bound of the entries' memory is the one that `--memory` gives, in MiB; without it there is none
abbrev pub IsMemory : List Row → Option ℕ → Type 0
IsMemory rows None = first_of (codes "memory") rows ≡ None
IsMemory rows (Some memory) =
    IfSome (first_of (codes "memory") rows) (λ text. SpellsWithin 1 memory_max text memory)
    × IsSome (first_of (codes "memory") rows)

-- the lease is the one that `--lease` gives, or the default
abbrev pub IsLease : List Row → ℕ → Type 0
IsLease rows = IsNumber LEASE_MIN LEASE_MAX lease_default (first_of (codes "lease") rows)

-- the epoch is the one that `--epoch` gives, or the default
abbrev pub IsEpoch : List Row → ℕ → Type 0
IsEpoch rows = IsNumber 0 epoch_max epoch_default (first_of (codes "epoch") rows)

-- the options of `once` hold what the words give for each of them, or its default
abbrev pub IsOnce : List Row → OnceOptions → Type 0
IsOnce rows o =
    (text_of o.tree ≡ first_of (codes "tree") rows)
    × IsLease rows o.lease
    × IsEpoch rows o.epoch
    × IsNumber 0 moment_max moment_default (first_of (codes "now") rows) o.moment
    × (text_of o.journal ≡ first_of (codes "journal") rows)

-- the options of `serve` hold what the words give for each of them, or its default
abbrev pub IsServe : List Row → ServeOptions → Type 0
IsServe rows o =
    (o.listen.now ≡ unwrap_or (first_of (codes "listen") rows) listen_default)
    × IsUntil rows o.until
    × IsConnections rows o.until o.connections
    × (text_of o.tree ≡ first_of (codes "tree") rows)
    × IsLease rows o.lease
    × IsEpoch rows o.epoch
    × (text_of o.journal ≡ first_of (codes "journal") rows)
    × IsMemory rows o.memory

abbrev pub AsksOnce : List Row → Subcommand → Type 0
AsksOnce rows (subcommand.Once o) = IsOnce rows o
AsksOnce rows (subcommand.Serve o) = ⊥
AsksOnce rows (subcommand.Audit file) = ⊥

abbrev pub AsksServe : List Row → Subcommand → Type 0
AsksServe rows (subcommand.Once o) = ⊥
AsksServe rows (subcommand.Serve o) = IsServe rows o
AsksServe rows (subcommand.Audit file) = ⊥

-- the journal's file is the word that is given
abbrev pub AsksAudit : List Row → Subcommand → Type 0
AsksAudit rows (subcommand.Once o) = ⊥
AsksAudit rows (subcommand.Serve o) = ⊥
AsksAudit rows (subcommand.Audit file) = first_of (codes "file") rows ≡ Some file.now

-- what the subcommand of this name asks for, with what is given for it
abbrev pub AsksNamed : Name → List Row → Subcommand → Type 0
AsksNamed name.Once rows s = AsksOnce rows s
AsksNamed name.Serve rows s = AsksServe rows s
AsksNamed name.Audit rows s = AsksAudit rows s

-- no subcommand means `once` without options
abbrev pub AsksBy : Option (Text × List Row) → Subcommand → Type 0
AsksBy None s = AsksOnce [] s
AsksBy (Some given) s = AsksNamed (name_of given.0) given.1 s

-- clap accepts the words, and this is what they ask for
abbrev pub Asks : List Text → Subcommand → Type 0
Asks words s = (fault_of program words ≡ []) × AsksBy (subcommand_of program words) s

-- `--lease` is present, and its value is not a number within the limits
abbrev pub LacksLease : List Row → Type 0
LacksLease rows = IsNoNumber LEASE_MIN LEASE_MAX (first_of (codes "lease") rows)

-- `--epoch` is present, and its value is not a number within the limits
abbrev pub LacksEpoch : List Row → Type 0
LacksEpoch rows = IsNoNumber 0 epoch_max (first_of (codes "epoch") rows)

-- `--memory` is present, and its value is not a number within the limits
abbrev pub LacksMemory : List Row → Type 0
LacksMemory rows = IsNoNumber 1 memory_max (first_of (codes "memory") rows)

-- the value of some option is not a number within its limits
abbrev pub LacksOnce : List Row → Type 0
LacksOnce rows = LacksLease rows
    ⊎ (LacksEpoch rows
    ⊎ IsNoNumber 0 moment_max (first_of (codes "now") rows))

-- the same for `serve`, or flags are given that exclude each other
abbrev pub LacksServe : List Row → Type 0
LacksServe rows = IsBoth rows
    ⊎ (IsNoNumber 1 connections_max (first_of (codes "connections") rows)
    ⊎ (LacksLease rows
    ⊎ (LacksEpoch rows
    ⊎ LacksMemory rows)))

-- no file is given
abbrev pub LacksAudit : List Row → Type 0
LacksAudit rows = first_of (codes "file") rows ≡ None

-- what is given for the subcommand of this name can't be followed: there is no file, a number isn't within its limits,
-- or there are flags that exclude each other
abbrev pub LacksNamed : Name → List Row → Type 0
LacksNamed name.Once rows = LacksOnce rows
LacksNamed name.Serve rows = LacksServe rows
LacksNamed name.Audit rows = LacksAudit rows

-- a subcommand is given, and what is given for it can't be followed
abbrev pub Lacks : Option (Text × List Row) → Type 0
Lacks None = ⊥
Lacks (Some given) = LacksNamed (name_of given.0) given.1

-- the numbers are within their limits
abbrev pub IsOnceWithinLimits : OnceOptions → Type 0
IsOnceWithinLimits o = (LEASE_MIN ≤ o.lease) × (o.lease ≤ LEASE_MAX)
    × (o.epoch ≤ epoch_max) × (o.moment ≤ moment_max)

abbrev pub IsMemoryWithinLimits : ℕ → Type 0
IsMemoryWithinLimits memory = (1 ≤ memory) × (memory ≤ memory_max)

abbrev pub IsServeWithinLimits : ServeOptions → Type 0
IsServeWithinLimits o = (LEASE_MIN ≤ o.lease) × (o.lease ≤ LEASE_MAX)
    × (o.epoch ≤ epoch_max) × (1 ≤ o.connections) × (o.connections ≤ connections_max)
    × IfSome o.memory IsMemoryWithinLimits

abbrev pub IsWithinLimits : Subcommand → Type 0
IsWithinLimits (subcommand.Once o) = IsOnceWithinLimits o
IsWithinLimits (subcommand.Serve o) = IsServeWithinLimits o
IsWithinLimits (subcommand.Audit file) = ⊤

-- clap rejects the words for one of these reasons, other than a request for help
abbrev pub Refuses : Kinds → Type 0
Refuses kinds = (k : ErrorKind) × IsAmong k kinds × (k ≢ DisplayHelp)

-- memory ran out, or the words are at fault as P describes
abbrev pub IsMemoryOr : Type 0 → Declined → Type 0
IsMemoryOr P declined.Memory = ⊤
IsMemoryOr P (declined.Usage text) = P
IsMemoryOr P (declined.Help text) = ⊥

-- why the words can't be followed: they ask for help, clap rejects them, or what is given can't be
-- followed
abbrev pub IsDeclined : List Text → Declined → Type 0
IsDeclined words declined.Memory = ⊤
IsDeclined words (declined.Help text) = IsAmong DisplayHelp (fault_of program words)
IsDeclined words (declined.Usage text) = Refuses (fault_of program words)
    ⊎ ((fault_of program words ≡ []) × Lacks (subcommand_of program words))

-- ---- errors of clap

-- what an error of this kind from clap becomes in the program
abbrev pub IsDeclinedFor : ErrorKind → Declined → Type 0
IsDeclinedFor k declined.Memory = ⊤
IsDeclinedFor k (declined.Help text) = k ≡ DisplayHelp
IsDeclinedFor k (declined.Usage text) = (k ≢ DisplayHelp) × (k ≢ OutOfMemory)
