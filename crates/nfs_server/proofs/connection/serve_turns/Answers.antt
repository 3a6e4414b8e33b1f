use Rattle.std.proofs.Common.{◌≡◌, ℕ, [], Err, take, Ok, refl, ap, sym, subst, ◌∙◌, arith, inl, inr}
use Rattle.std.proofs.lemmas.List.{length-take}
use Rattle.std.proofs.lemmas.Result.{err_from_is_err_and}
use Rattle.nfs_server.specs.declared.serve_error.ServeError.{ServeError}
use Rattle.nfs_server.specs.declared.serve_error.ServeError.TheVariants as errors
use Rattle.nfs_server.specs.Connection.{scene}
use Rattle.nfs_server.specs.Exchange.{rules}
use Rattle.nfs_server.proofs.Courses.{starts, ends_failed, ends_idle, ends_too_long, more_served, no_read_failed, ready_within, some_piece, still_stream, write_failed}
use Rattle.nfs_server.proofs.Serving.{error_is}
use Rattle.nfs_server.proofs.connection.serve_turns.Goals as goal
use Rattle.nfs_tree.specs.Exports.{export_seen}

pub loop-records-init : goal.loop-records-init
loop-records-init g c = record {
  under_way = starts g.D.Duplex.device (rules (export_seen c.args.export.now) g.S.Service.gives g.S.Service.alike g.C.Clock.tells) (scene c.args.device.now c.args.service.now c.args.clock.now) c.new-records.result c.new-records.ensures.empty;
  sound = c.new-records.ensures.sound;
  goes = c.new-records.ensures.empty.goes;
  room = c.requires.room;
  idle = c.requires.idle;
  none = c.requires.none;
  written = c.requires.written;
  serves = c.requires.serves;
  reads = refl;
  writes = refl;
}

pub returns-in-Ok-eq0-clause-course : goal.returns-in-Ok-eq0-clause-course
returns-in-Ok-eq0-clause-course g c =
    let device = g.D.Duplex.device in
    let none : device.gives c.loop-records.device [] c.read.new.self =
    subst (λ (n : ℕ). device.gives c.loop-records.device (take n c.read.new.buffer) c.read.new.self) c.in-Ok-eq0.field-0-test c.in-Ok-eq0.ensures.gives in
    let u = c.loop-records.invariant.under_way in
    ends_idle device (rules (export_seen c.args.export.now) g.S.Service.gives g.S.Service.alike g.C.Clock.tells) (scene c.args.device.now c.args.service.now c.args.clock.now) (scene c.loop-records.device c.loop-records.service c.loop-records.clock)
    c.loop-records.records [] (Ok c.rest.result) c.read.new.self u c.loop-records.invariant.sound ((refl, refl, none), refl, c.rest.ensures.value _ u.keeps)

pub returns-in-Err-clause-course : goal.returns-in-Err-clause-course
returns-in-Err-clause-course g c =
    ends_idle g.D.Duplex.device (rules (export_seen c.args.export.now) g.S.Service.gives g.S.Service.alike g.C.Clock.tells) (scene c.args.device.now c.args.service.now c.args.clock.now) (scene c.loop-records.device c.loop-records.service c.loop-records.clock)
    c.loop-records.records [] (Err errors.Read) c.read.new.self c.loop-records.invariant.under_way c.loop-records.invariant.sound (refl, refl, refl, c.in-Err.ensures.fails)

pub returns-then-count-fed-clause-course : goal.returns-then-count-fed-clause-course
returns-then-count-fed-clause-course g c =
    let piece = take c.in-Ok.count c.read.new.buffer in
    ends_idle g.D.Duplex.device (rules (export_seen c.args.export.now) g.S.Service.gives g.S.Service.alike g.C.Clock.tells) (scene c.args.device.now c.args.service.now c.args.clock.now) (scene c.loop-records.device c.loop-records.service c.loop-records.clock)
    c.loop-records.records piece (Err errors.TooMuch) c.read.new.self c.loop-records.invariant.under_way c.loop-records.invariant.sound
    ((refl, refl, c.in-Ok.ensures.gives), λ within. omega (arith, within, length-take c.in-Ok.count c.read.new.buffer, c.loop-records.invariant.under_way.fed, c.fed.ensures.value, c.in-Ok.ensures.within, c.if-count-fed.true))

pub returns-in_err-feed-clause-course : goal.returns-in_err-feed-clause-course
returns-in_err-feed-clause-course g c =
    let piece = take c.in-Ok.count c.read.new.buffer in
    let p = err_from_is_err_and c.from_residual.result c.from_residual.ensures.1 in
    let memory : c.from_residual.result ≡ Err errors.Memory = p.1 ∙ ap (λ (e : ServeError). Err e) (p.2 ∙ error_is c.in_err-feed.field-0.0 errors.Memory c.in_err-feed.ensures.memory) in
    rw memory
    (ends_idle g.D.Duplex.device (rules (export_seen c.args.export.now) g.S.Service.gives g.S.Service.alike g.C.Clock.tells) (scene c.args.device.now c.args.service.now c.args.clock.now) (scene c.loop-records.device c.loop-records.service c.loop-records.clock)
    c.loop-records.records piece (Err errors.Memory) c.read.new.self c.loop-records.invariant.under_way c.loop-records.invariant.sound (inr (inl (
      (refl, refl, c.in-Ok.ensures.gives),
      omega (arith, length-take c.in-Ok.count c.read.new.buffer, c.loop-records.invariant.under_way.fed, c.loop-records.invariant.sound.bounded, c.fed.ensures.value, c.in-Ok.ensures.within, c.if-count-fed.false),
      some_piece c.read.new.buffer c.in-Ok.count c.in-Ok.ensures.within c.in-Ok.count-test.1,
    ))))

pub serve_ready-requires-clause-limits : goal.serve_ready-requires-clause-limits
serve_ready-requires-clause-limits g c =
    let u = c.loop-records.invariant.under_way in
    ready_within c.loop-records.records c.feed.new.records (take c.in-Ok.count c.read.new.buffer) _ u.idle u.keeps c.in_ok-feed.ensures.ok

pub returns-in_err-serve_ready-clause-course : goal.returns-in_err-serve_ready-clause-course
returns-in_err-serve_ready-clause-course g c =
    let piece = take c.in-Ok.count c.read.new.buffer in
    let p = err_from_is_err_and c.from_residual-in_err-serve_ready.result c.from_residual-in_err-serve_ready.ensures.1 in
    ends_failed {T = Unit {0}} g.D.Duplex.device (rules (export_seen c.args.export.now) g.S.Service.gives g.S.Service.alike g.C.Clock.tells) (scene c.args.device.now c.args.service.now c.args.clock.now) (scene c.loop-records.device c.loop-records.service c.loop-records.clock)
    c.loop-records.records c.feed.new.records piece c.in_err-serve_ready.field-0.0 c.from_residual-in_err-serve_ready.result (scene c.serve_ready.new.device c.serve_ready.new.service c.serve_ready.new.clock)
    (p.1 ∙ ap (λ (e : ServeError). Err e) p.2) c.in_err-serve_ready.ensures.errors c.loop-records.invariant.sound (record {
      mid = c.read.new.self;
      under_way = c.loop-records.invariant.under_way;
      some = some_piece c.read.new.buffer c.in-Ok.count c.in-Ok.ensures.within c.in-Ok.count-test.1;
      reads = c.in-Ok.ensures.gives;
      takes = c.in_ok-feed.ensures.ok;
      served = c.in_err-serve_ready.ensures.served;
      within = omega (arith, length-take c.in-Ok.count c.read.new.buffer, c.loop-records.invariant.sound.bounded, c.fed.ensures.value, c.in-Ok.ensures.within, c.if-count-fed.false);
    })

pub returns-in_err-serve_ready-clause-read_failed : goal.returns-in_err-serve_ready-clause-read_failed
returns-in_err-serve_ready-clause-read_failed g c =
    let p = err_from_is_err_and c.from_residual-in_err-serve_ready.result c.from_residual-in_err-serve_ready.ensures.1 in
    no_read_failed c.from_residual-in_err-serve_ready.result c.in_err-serve_ready.field-0.0 (g.D.Duplex.read_failures c.args.device.now) (g.D.Duplex.read_failures c.read.new.self) (g.D.Duplex.read_failures c.serve_ready.new.device)
    (p.1 ∙ ap (λ (e : ServeError). Err e) p.2) c.in_err-serve_ready.ensures.errors c.in_err-serve_ready.ensures.reads (c.in-Ok.ensures.ok ∙ c.loop-records.invariant.reads)

pub returns-in_err-serve_ready-clause-write_failed : goal.returns-in_err-serve_ready-clause-write_failed
returns-in_err-serve_ready-clause-write_failed g c =
    let p = err_from_is_err_and c.from_residual-in_err-serve_ready.result c.from_residual-in_err-serve_ready.ensures.1 in
    write_failed c.from_residual-in_err-serve_ready.result c.in_err-serve_ready.field-0.0 (g.D.Duplex.write_failures c.args.device.now) (g.D.Duplex.write_failures c.read.new.self) (g.D.Duplex.write_failures c.serve_ready.new.device)
    (p.1 ∙ ap (λ (e : ServeError). Err e) p.2) c.in_err-serve_ready.ensures.write_failed (c.in-Ok.ensures.writes ∙ c.loop-records.invariant.writes)

pub returns-then-is_too_long-clause-course : goal.returns-then-is_too_long-clause-course
returns-then-is_too_long-clause-course g c =
    let piece = take c.in-Ok.count c.read.new.buffer in
    ends_too_long {T = Unit {0}} g.D.Duplex.device (rules (export_seen c.args.export.now) g.S.Service.gives g.S.Service.alike g.C.Clock.tells) (scene c.args.device.now c.args.service.now c.args.clock.now) (scene c.loop-records.device c.loop-records.service c.loop-records.clock)
    c.loop-records.records c.feed.new.records c.serve_ready.new.records piece tt (scene c.serve_ready.new.device c.serve_ready.new.service c.serve_ready.new.clock) c.loop-records.invariant.sound (record {
      mid = c.read.new.self;
      under_way = c.loop-records.invariant.under_way;
      some = some_piece c.read.new.buffer c.in-Ok.count c.in-Ok.ensures.within c.in-Ok.count-test.1;
      reads = c.in-Ok.ensures.gives;
      takes = c.in_ok-feed.ensures.ok;
      served = c.in_ok-serve_ready.ensures.served;
      within = omega (arith, length-take c.in-Ok.count c.read.new.buffer, c.loop-records.invariant.sound.bounded, c.fed.ensures.value, c.in-Ok.ensures.within, c.if-count-fed.false);
    }) c.in_ok-serve_ready.ensures.taken (sym c.is_too_long.ensures.value ∙ c.if-is_too_long.true)

pub loop-records-preserved : goal.loop-records-preserved
loop-records-preserved g c =
    let piece = take c.in-Ok.count c.read.new.buffer in
    record {
      under_way = more_served {T = Unit {0}} g.D.Duplex.device (rules (export_seen c.args.export.now) g.S.Service.gives g.S.Service.alike g.C.Clock.tells) (scene c.args.device.now c.args.service.now c.args.clock.now) (scene c.loop-records.device c.loop-records.service c.loop-records.clock)
          c.loop-records.records c.feed.new.records c.serve_ready.new.records piece tt (scene c.serve_ready.new.device c.serve_ready.new.service c.serve_ready.new.clock) (record {
            mid = c.read.new.self;
            under_way = c.loop-records.invariant.under_way;
            some = some_piece c.read.new.buffer c.in-Ok.count c.in-Ok.ensures.within c.in-Ok.count-test.1;
            reads = c.in-Ok.ensures.gives;
            takes = c.in_ok-feed.ensures.ok;
            served = c.in_ok-serve_ready.ensures.served;
            within = omega (arith, length-take c.in-Ok.count c.read.new.buffer, c.loop-records.invariant.sound.bounded, c.fed.ensures.value, c.in-Ok.ensures.within, c.if-count-fed.false);
          }) c.in_ok-serve_ready.ensures.taken (sym c.is_too_long.ensures.value ∙ c.if-is_too_long.false);
      sound = still_stream c.feed.new.records c.serve_ready.new.records c.in_ok-serve_ready.ensures.taken c.in_ok-feed.ensures.sound;
      goes = sym c.is_too_long.ensures.value ∙ c.if-is_too_long.false;
      room = search c.loop-records.invariant.room;
      idle = c.in_ok-serve_ready.ensures.idle;
      none = c.in_ok-serve_ready.ensures.none;
      written = c.in_ok-serve_ready.ensures.written;
      serves = c.in_ok-serve_ready.ensures.serves;
      reads = c.in_ok-serve_ready.ensures.reads ∙ c.in-Ok.ensures.ok ∙ c.loop-records.invariant.reads;
      writes = c.in_ok-serve_ready.ensures.ok ∙ c.in-Ok.ensures.writes ∙ c.loop-records.invariant.writes;
    }
