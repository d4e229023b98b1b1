-- A connection from one read to the next.
use Rattle.std.proofs.Common.{◌≡◌, ◌++◌, inl, ℕ, List, [], Option, Some, Result, Ok, Err, refl, sym, append-nil, arith, subst}
use Rattle.std.specs.Io.KnownBytes.{Appends, Consumes, IsAtEnd}
use Rattle.fm_wire.specs.declared.frame.Frame.{Frame}
use Rattle.fm_wire.specs.Stream.{Keeps}
use Rattle.fm_server.specs.Serving.{AnswersAll, IsLast, Leaves, Serves}
use Rattle.fm_server.specs.Connections.{EndsPiece, Goes, LastEnd, Stands, TakesWhole, Waits}
use Rattle.fm_server.specs.declared.serve_end.ServeEnd.{ServeEnd}
use Rattle.fm_server.specs.declared.serve_end.ServeEnd.TheVariants.{Ended, Truncated, ReadFault, NoMemory}
use Rattle.fm_server.proofs.Known.{appends_more, consumes_more, consumes_nothing, appends_nothing}
use Rattle.fm_server.proofs.Pieces.{kept_is}
use Rattle.fm_server.proofs.Frames.{answered_none}

not_last : (end : ServeEnd) → EndsPiece end → IsLast end → ⊥
not_last Ended piece last = piece
not_last Truncated piece last = piece
not_last end piece last = last

module _ {S : Type 0} (answers : S → Frame → Frame → S → Type 0) where
  pub stands : (first now : S) (read written decoder read_now written_now : Option (List ℕ))
      → (w : Waits answers first read written decoder read_now written_now now)
      → Stands answers first decoder w.input w.output now
  stands first now read written decoder read_now written_now w = record {
    frames = w.frames;
    rest = w.rest;
    splits = w.splits;
    keeps = subst (λ (d : Option (List ℕ)). Keeps d w.rest) (sym w.held) (w.partial, refl);
    answered = w.answered;
  }

  -- a piece was read and taken
  pub waits_more : (r : Result (Unit {0}) ServeEnd) (first now new : S) (read written decoder read_now written_now after read_new written_new : Option (List ℕ))
      (piece output : List ℕ) → (w : Waits answers first read written decoder read_now written_now now)
      → Consumes read_now read_new piece → Appends written_now written_new output
      → TakesWhole answers r first after (w.input ++ piece) (w.output ++ output) new
      → Goes answers r first read written after read_new written_new new
  waits_more (Ok _) first now new read written decoder read_now written_now after read_new written_new piece output w consumes appends t = record {
    input = w.input ++ piece;
    output = w.output ++ output;
    frames = t.0.frames;
    rest = t.0.rest;
    read = consumes_more read read_now read_new w.input piece w.read consumes;
    written = appends_more written written_now written_new w.output output w.written appends;
    splits = t.0.splits;
    held = kept_is after t.0.rest t.0.keeps t.1;
    partial = t.1;
    answered = t.0.answered;
  }
  waits_more (Err end) first now new read written decoder read_now written_now after read_new written_new piece output w consumes appends t = record {
    input = w.input ++ piece;
    output = w.output ++ output;
    read = consumes_more read read_now read_new w.input piece w.read consumes;
    written = appends_more written written_now written_new w.output output w.written appends;
    serves = t.1;
    last = λ last. absurd (not_last end t.0 last);
  }

  read_on : (first now : S) (read written decoder read_now written_now read_new : Option (List ℕ))
      → (w : Waits answers first read written decoder read_now written_now now)
      → Consumes read_now read_new [] → Consumes read read_new w.input
  read_on first now read written decoder read_now written_now read_new w consumes =
      subst (λ (t : List ℕ). Consumes read read_new t) (append-nil w.input) (consumes_more read read_now read_new w.input [] w.read consumes)

  -- all that came whole was answered
  all_answered : (first now : S) (read written decoder read_now written_now : Option (List ℕ))
      → (w : Waits answers first read written decoder read_now written_now now)
      → AnswersAll answers first w.input w.rest w.output now
  all_answered first now read written decoder read_now written_now w = record { frames = w.frames; splits = w.splits; answered = w.answered }

  -- the source failed, or was read as often as it may be
  pub leaves_fault : (first now : S) (read written decoder read_now written_now read_new : Option (List ℕ))
      → Waits answers first read written decoder read_now written_now now
      → Consumes read_now read_new [] → Leaves answers ReadFault read written first read_new written_now now
  leaves_fault first now read written decoder read_now written_now read_new w consumes = record {
    input = w.input;
    output = w.output;
    read = read_on first now read written decoder read_now written_now read_new w consumes;
    written = w.written;
    serves = (w.rest, w.partial, all_answered first now read written decoder read_now written_now w);
    last = λ last. absurd last;
  }

  held_rest : (held rest : List ℕ) (end : ServeEnd) (d : Option (List ℕ)) → d ≡ Some rest → LastEnd d end → LastEnd (Some rest) end
  held_rest held rest end d is last = subst (λ (x : Option (List ℕ)). LastEnd x end) is last

  serves_last : (end : ServeEnd) (first now : S) (read written decoder read_now written_now : Option (List ℕ))
      → (w : Waits answers first read written decoder read_now written_now now)
      → LastEnd (Some w.rest) end → Serves answers end first w.input w.output now
  serves_last Ended first now read written decoder read_now written_now w last =
      subst (λ (rest : List ℕ). AnswersAll answers first w.input rest w.output now) last (all_answered first now read written decoder read_now written_now w)
  serves_last Truncated first now read written decoder read_now written_now w last =
      (w.rest, last, w.partial, all_answered first now read written decoder read_now written_now w)
  serves_last end first now read written decoder read_now written_now w last = absurd last

  -- the input is at its end
  pub leaves_last : (end : ServeEnd) (first now : S) (read written decoder read_now written_now read_new : Option (List ℕ))
      → Waits answers first read written decoder read_now written_now now
      → Consumes read_now read_new [] → IsAtEnd read_new → LastEnd decoder end → Leaves answers end read written first read_new written_now now
  leaves_last end first now read written decoder read_now written_now read_new w consumes at_end last = record {
    input = w.input;
    output = w.output;
    read = read_on first now read written decoder read_now written_now read_new w consumes;
    written = w.written;
    serves = serves_last end first now read written decoder read_now written_now w (subst (λ (d : Option (List ℕ)). LastEnd d end) w.held last);
    last = λ _. at_end;
  }

  -- a connection at its beginning
  pub waits_first : (first : S) (decoder read written : Option (List ℕ)) → decoder ≡ Some [] → Waits answers first read written decoder read written first
  waits_first first decoder read written is = record {
    input = [];
    output = [];
    frames = [];
    rest = [];
    read = consumes_nothing read;
    written = appends_nothing written;
    splits = record { begins = refl; ends = inl (inl (omega arith)) };
    held = is;
    partial = inl (omega arith);
    answered = answered_none answers first;
  }

  -- there was no memory to begin
  pub leaves_unread : (first : S) (read written : Option (List ℕ)) → Leaves answers NoMemory read written first read written first
  leaves_unread first read written = record {
    input = [];
    output = [];
    read = consumes_nothing read;
    written = appends_nothing written;
    serves = inl (record {
      frames = [];
      rest = [];
      begins = refl;
      until = record {
        before = [];
        left = [];
        mid = first;
        parts = refl;
        answered = answered_none answers first;
        may_answer = refl;
      };
    });
    last = λ last. absurd last;
  }
