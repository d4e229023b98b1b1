-- Frames that are answered one after the other.
use Rattle.std.proofs.Common.{◌≡◌, ◌++◌, ◌∷◌, ℕ, List, [], false, Err, refl, sym, ap, ◌∙◌, append_assoc, append-nil}
use Rattle.std.specs.Vec.Iter.{into_iter_items, into_iter_steps}
use Rattle.std.specs.declared.vec.IntoIter.{IntoIter}
use Rattle.std.specs.Iterator.{Yields}
use Rattle.fm_wire.specs.declared.frame.Frame.{Frame}
use Rattle.fm_server.specs.Replies.{Answered, NoneStops, RepliesAll, RepliesTo, is_stop}
use Rattle.fm_server.specs.Serving.{Until}
use Rattle.fm_server.specs.Connections.{Does}
use Rattle.fm_server.specs.declared.serve_end.ServeEnd.{ServeEnd}
use Rattle.fm_server.specs.declared.serve_end.ServeEnd.TheVariants.{WriteFault, NoMemory, Stopped}

-- what the iterator of a vector has given is a front of its items
pub taken_front : {X A : Type 0} (s : IntoIter X A) (xs : List X) (t : IntoIter X A) → Yields into_iter_steps s xs t
    → into_iter_items s ≡ xs ++ into_iter_items t
taken_front s [] t y = ap into_iter_items y
taken_front s (x ∷ xs) t y = y.1.0 ∙ ap (λ ys. x ∷ ys) (taken_front y.0 xs t y.2)

none_more : (frames more : List Frame) → NoneStops frames → NoneStops more → NoneStops (frames ++ more)
none_more [] more p q = q
none_more (frame ∷ frames) more p q = (p.0, none_more frames more p.1 q)

module _ {S : Type 0} (answers : S → Frame → Frame → S → Type 0) where
  replies_more : (old mid new : S) (frames more : List Frame) (told last : List ℕ) → RepliesAll answers old frames told mid
      → RepliesAll answers mid more last new
      → RepliesAll answers old (frames ++ more) (told ++ last) new
  replies_more old mid new [] more told last p q = rw (p.0, ← p.1) q
  replies_more old mid new (frame ∷ frames) more told last p q =
      (p.0, p.1 ++ last, p.2, p.3, replies_more p.2 mid new frames more p.1 last p.4 q, ap (λ (t : List ℕ). t ++ last) p.5 ∙ append_assoc p.0 p.1 last)

  pub answered_more : (old mid new : S) (frames more : List Frame) (told last : List ℕ) → Answered answers old frames told mid
      → Answered answers mid more last new
      → Answered answers old (frames ++ more) (told ++ last) new
  answered_more old mid new frames more told last p q = record {
    replies = replies_more old mid new frames more told last p.replies q.replies;
    none_stops = none_more frames more p.none_stops q.none_stops;
  }

  pub answered_none : (old : S) → Answered answers old [] [] old
  answered_none old = record { replies = (refl, refl); none_stops = tt }

  pub answered_one : (old new : S) (frame : Frame) (text : List ℕ) → RepliesTo answers old frame text new → is_stop frame.body ≡ false
      → Answered answers old (frame ∷ []) text new
  answered_one old new frame text p stops = record { replies = (text, [], new, p, (refl, refl), sym (append-nil text)); none_stops = (stops, tt) }

  -- one more frame was answered
  pub does_more : (old mid new : S) (frames : List Frame) (frame : Frame) (told last : List ℕ) → Answered answers old frames told mid
      → RepliesTo answers mid frame last new × (is_stop frame.body ≡ false) → Answered answers old (frames ++ frame ∷ []) (told ++ last) new
  does_more old mid new frames frame told last p q = answered_more old mid new frames (frame ∷ []) told last p (answered_one mid new frame last q.0 q.1)

  -- serving ended at one frame
  pub does_until : (end : ServeEnd) (old mid new : S) (frames : List Frame) (frame : Frame) (left all : List Frame) (told last : List ℕ)
      → all ≡ frames ++ frame ∷ left → Answered answers old frames told mid → Does answers (Err end) mid frame last new
      → Until answers end old all (told ++ last) new
  does_until Stopped old mid new frames frame left all told last e p q = record {
    before = frames;
    stop = frame;
    left = left;
    told = told;
    last = last;
    mid = mid;
    parts = e;
    answered = p;
    replies = q.0;
    stops = q.1;
    sent = refl;
  }
  does_until WriteFault old mid new frames frame left all told last e p q = record {
    before = frames;
    failed = frame;
    left = left;
    told = told;
    last = q.0;
    part = last;
    mid = mid;
    parts = e;
    answered = p;
    replies = q.1;
    in_part = q.2;
    sent = refl;
  }
  does_until NoMemory old mid new frames frame left all told last e p q = record {
    before = frames;
    left = frame ∷ left;
    mid = mid;
    parts = e;
    answered = rw (q.0, append-nil told) p;
    may_answer = (q.1, q.2);
  }
  does_until end old mid new frames frame left all told last e p q = absurd q
