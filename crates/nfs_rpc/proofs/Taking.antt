-- What a stream holds after it took a piece.
use Rattle.std.proofs.Common.{◌≡◌, ℕ, ◌+◌, ◌^◌, ◌≤◌, false, List, ◌++◌, length, refl, ap, sym, ◌∙◌, arith, length-append}
use Rattle.nfs_rpc.specs.declared.records.TheConstants.{RECORD_LIMIT}
use Rattle.nfs_rpc.specs.declared.unfinished.Unfinished.{Unfinished}
use Rattle.nfs_rpc.specs.Records.{IsAt, IsStream, Stream, TakesPiece}
use Rattle.nfs_rpc.specs.Keeping.{AreAllFound, IsSound, TakesMore}

abbrev pub stream_of : List (List ℕ) → List ℕ → Unfinished → ℕ → Stream
stream_of ready bodies first fed =
    record { ready = ready; bodies = bodies; place = first.place; count = first.count; is_too_long = first.is_too_long; fed = fed }

pub sound_stream : (ready : List (List ℕ)) (bodies : List ℕ) (first : Unfinished) (fed : ℕ) → IsSound bodies first → fed ≤ 2 ^ 40 → IsStream (stream_of ready bodies first fed)
sound_stream ready bodies first fed s bounded = record { keeps = s.keeps; few = s.few; bounded = bounded }

module _ (bodies longer piece : List ℕ) (messages : List (List ℕ)) (from first : Unfinished) (goes : from.is_too_long ≡ false)
    (all : (text : List ℕ) → IsAt text bodies from.place → from.count ≡ length text → AreAllFound (text ++ piece) messages longer first) where
  pub sound_after : IsSound bodies from → (first.is_too_long ≡ false → TakesMore longer first.place) → length longer ≤ RECORD_LIMIT → IsSound longer first
  sound_after s at_place few =
      let kept = s.keeps.1 in
      let w = all s.keeps.0 (kept.at_place goes) kept.count in
      record { keeps = (w.0, w.2); at_place = at_place; few = few }

  pub count_after : IsSound bodies from → first.count ≤ from.count + length piece
  count_after s =
      let kept = s.keeps.1 in
      let w = all s.keeps.0 (kept.at_place goes) kept.count in
      let sizes : length s.keeps.0 + length piece ≡ length w.1.front + length w.0 = sym (length-append s.keeps.0 piece) ∙ ap length w.1.whole ∙ length-append w.1.front w.0 in
      omega (arith, kept.count, w.2.count)

  pub takes_after : (ready others : List (List ℕ)) (fed : ℕ) → others ≡ ready ++ messages → TakesPiece (stream_of ready bodies from fed) (stream_of others longer first (fed + length piece)) piece
  takes_after ready others fed more = record {
    found = messages;
    split = λ rest kept. all rest (kept.at_place goes) kept.count;
    ready = more;
    fed = refl;
  }
