-- A connection that takes a piece of its input.
use Rattle.std.proofs.Common.{◌≡◌, ◌++◌, ◌∷◌, inl, inr, ℕ, List, [], Option, Some, None, Result, Ok, Err, refl, sym, ap, ◌∙◌, append_assoc, append-nil, arith, subst}
use Rattle.fm_wire.specs.declared.frame.Frame.{Frame}
use Rattle.fm_wire.specs.Stream.{Begins, Gives, IsFault, IsPartial, Keeps, Refuses, Splits}
use Rattle.fm_wire.proofs.OneFrame.{pieces}
use Rattle.fm_wire.proofs.Streams.{fault_is_long, out_of_range}
use Rattle.fm_server.specs.Replies.{Answered}
use Rattle.fm_server.specs.Serving.{AnswersAll, Serves, Until}
use Rattle.fm_server.specs.Connections.{DoesAll, EndsPiece, Stands, Takes, TakesWhole, TellsBehind, TellsFault}
use Rattle.fm_server.specs.declared.serve_end.ServeEnd.{ServeEnd}
use Rattle.fm_server.specs.declared.serve_end.ServeEnd.TheVariants.{BadFrame, WriteFault, NoMemory, Stopped}
use Rattle.fm_server.proofs.Frames.{answered_more}

-- ---- streams

begins_longer : (stream piece : List ℕ) (frames : List Frame) (rest : List ℕ) → Begins stream frames rest → Begins (stream ++ piece) frames (rest ++ piece)
begins_longer stream piece [] rest begins = ap (λ (t : List ℕ). t ++ piece) begins
begins_longer stream piece (frame ∷ frames) rest begins = (
  begins.0,
  begins.1 ++ piece,
  ap (λ (t : List ℕ). t ++ piece) begins.2 ∙ append_assoc begins.0 begins.1 piece,
  begins.3,
  begins_longer begins.1 piece frames rest begins.4,
)

fault_longer : (rest piece : List ℕ) → IsFault rest → IsFault (rest ++ piece)
fault_longer rest piece fault = record {
  len = fault.len;
  behind = fault.behind ++ piece;
  parts = ap (λ (t : List ℕ). t ++ piece) fault.parts ∙ append_assoc _ fault.behind piece;
  fits = fault.fits;
  out_of_range = fault.out_of_range;
}

pub partial_or_fault : (rest : List ℕ) → IsPartial rest → IsFault rest → ⊥
partial_or_fault rest (inl short) fault = let long = fault_is_long rest fault in omega arith
partial_or_fault rest (inr begun) fault =
    let inside = begun.in_range in out_of_range rest begun.behind begun.len begun.parts (omega arith) fault begun.in_range

-- what a decoder that keeps that rest holds
held_is : (decoder : Option (List ℕ)) (held rest : List ℕ) → Keeps decoder rest → decoder ≡ Some held → IsPartial rest × (held ≡ rest)
held_is None held rest keeps is = absurd (cc)
held_is (Some x) held rest keeps is = let same : x ≡ held = cc in (keeps.0, sym same ∙ keeps.1)

pub kept_is : (decoder : Option (List ℕ)) (rest : List ℕ) → Keeps decoder rest → IsPartial rest → decoder ≡ Some rest
kept_is None rest keeps partial = absurd (partial_or_fault rest partial keeps)
kept_is (Some x) rest keeps partial = ap (λ (t : List ℕ). Some t) keeps.1

module _ {S : Type 0} (answers : S → Frame → Frame → S → Type 0) where
  until_more : (end : ServeEnd) (old mid new : S) (frames more : List Frame) (told output : List ℕ) → Answered answers old frames told mid
      → Until answers end mid more output new → Until answers end old (frames ++ more) (told ++ output) new
  until_more Stopped old mid new frames more told output p q = record {
    before = frames ++ q.before;
    stop = q.stop;
    left = q.left;
    told = told ++ q.told;
    last = q.last;
    mid = q.mid;
    parts = ap (λ (fs : List Frame). frames ++ fs) q.parts ∙ sym (append_assoc frames q.before (q.stop ∷ q.left));
    answered = answered_more answers old mid q.mid frames q.before told q.told p q.answered;
    replies = q.replies;
    stops = q.stops;
    sent = ap (λ (t : List ℕ). told ++ t) q.sent ∙ sym (append_assoc told q.told q.last);
  }
  until_more WriteFault old mid new frames more told output p q = record {
    before = frames ++ q.before;
    failed = q.failed;
    left = q.left;
    told = told ++ q.told;
    last = q.last;
    part = q.part;
    mid = q.mid;
    parts = ap (λ (fs : List Frame). frames ++ fs) q.parts ∙ sym (append_assoc frames q.before (q.failed ∷ q.left));
    answered = answered_more answers old mid q.mid frames q.before told q.told p q.answered;
    replies = q.replies;
    in_part = q.in_part;
    sent = ap (λ (t : List ℕ). told ++ t) q.sent ∙ sym (append_assoc told q.told q.part);
  }
  until_more NoMemory old mid new frames more told output p q = record {
    before = frames ++ q.before;
    left = q.left;
    mid = q.mid;
    parts = ap (λ (fs : List Frame). frames ++ fs) q.parts ∙ sym (append_assoc frames q.before q.left);
    answered = answered_more answers old mid q.mid frames q.before told output p q.answered;
    may_answer = q.may_answer;
  }
  until_more end old mid new frames more told output p q = absurd q

  -- serving ended among the frames of a piece
  ends_within : (end : ServeEnd) (first mid new : S) (input piece told output rest : List ℕ) (frames more : List Frame)
      → Begins (input ++ piece) (frames ++ more) rest → Answered answers first frames told mid → Until answers end mid more output new
      → EndsPiece end × Serves answers end first (input ++ piece) (told ++ output) new
  ends_within Stopped first mid new input piece told output rest frames more begins p q =
      (tt, record { frames = frames ++ more; rest = rest; begins = begins; until = until_more Stopped first mid new frames more told output p q })
  ends_within WriteFault first mid new input piece told output rest frames more begins p q =
      (tt, inl (record { frames = frames ++ more; rest = rest; begins = begins; until = until_more WriteFault first mid new frames more told output p q }))
  ends_within NoMemory first mid new input piece told output rest frames more begins p q =
      (tt, inl (record { frames = frames ++ more; rest = rest; begins = begins; until = until_more NoMemory first mid new frames more told output p q }))
  ends_within end first mid new input piece told output rest frames more begins p q = absurd q

  -- a piece gave frames, and they were answered
  pub takes_frames : (r : Result (Unit {0}) ServeEnd) (first old new : S) (decoder after : Option (List ℕ))
      (input told piece output : List ℕ) (frames : List Frame)
      → Stands answers first decoder input told old → Gives decoder piece frames after → DoesAll answers r old frames output new
      → Takes answers r first after (input ++ piece) (told ++ output) new
  takes_frames (Ok _) first old new decoder after input told piece output frames s g d =
      let held = held_is decoder g.held s.rest s.keeps g.was in
      let later : Splits (s.rest ++ piece) frames g.rest = subst (λ (t : List ℕ). Splits (t ++ piece) frames g.rest) held.1 g.splits in record {
        frames = s.frames ++ frames;
        rest = g.rest;
        splits = pieces input piece s.frames frames s.rest g.rest s.splits later;
        keeps = g.keeps;
        answered = answered_more answers first old new s.frames frames told output s.answered d;
      }
  takes_frames (Err end) first old new decoder after input told piece output frames s g d =
      let held = held_is decoder g.held s.rest s.keeps g.was in
      let later : Splits (s.rest ++ piece) frames g.rest = subst (λ (t : List ℕ). Splits (t ++ piece) frames g.rest) held.1 g.splits in
      let whole = pieces input piece s.frames frames s.rest g.rest s.splits later in
      ends_within end first old new input piece told output g.rest s.frames frames whole.begins s.answered d

  -- all frames were answered, and a fault stands after them
  at_fault : (first old : S) (decoder : Option (List ℕ)) (input told piece : List ℕ) → (s : Stands answers first decoder input told old) → Refuses decoder piece
      → AnswersAll answers first (input ++ piece) (s.rest ++ piece) told old × IsFault (s.rest ++ piece)
  at_fault first old None input told piece s refuses =
      let fault = fault_longer s.rest piece s.keeps in (
        record {
          frames = s.frames;
          splits = record {
            begins = begins_longer input piece s.frames s.rest s.splits.begins;
            ends =
                inr fault;
          };
          answered = s.answered;
        },
        fault,
      )
  at_fault first old (Some held) input told piece s refuses =
      let fault : IsFault (s.rest ++ piece) = subst (λ (t : List ℕ). IsFault (t ++ piece)) s.keeps.1 refuses in (
        record {
          frames = s.frames;
          splits = record {
            begins = begins_longer input piece s.frames s.rest s.splits.begins;
            ends =
                inr fault;
          };
          answered = s.answered;
        },
        fault,
      )

  -- a piece was refused, and the fault was told
  pub takes_fault : (end : ServeEnd) (first old : S) (decoder : Option (List ℕ)) (input told piece output : List ℕ)
      → Stands answers first decoder input told old → Refuses decoder piece → TellsFault end output
      → EndsPiece end × Serves answers end first (input ++ piece) (told ++ output) old
  takes_fault BadFrame first old decoder input told piece output s refuses tells =
      let at = at_fault first old decoder input told piece s refuses in
      (tt, record { rest = s.rest ++ piece; text = told; last = output; all = at.0; fault = at.1; is_told = tells; sent = refl })
  takes_fault WriteFault first old decoder input told piece output s refuses tells =
      let at = at_fault first old decoder input told piece s refuses in
      (tt, inr (record { rest = s.rest ++ piece; text = told; last = output; all = at.0; fault = at.1; is_told = tells; sent = refl }))
  takes_fault NoMemory first old decoder input told piece output s refuses tells =
      let at = at_fault first old decoder input told piece s refuses in
      (tt, inr (record { rest = s.rest ++ piece; text = told; last = output; all = at.0; fault = at.1; is_told = tells; sent = refl }))
  takes_fault end first old decoder input told piece output s refuses tells = absurd tells

  -- a piece was refused for want of memory
  pub takes_nothing : (first old : S) (decoder : Option (List ℕ)) (input told piece : List ℕ) → Stands answers first decoder input told old
      → EndsPiece NoMemory × Serves answers NoMemory first (input ++ piece) (told ++ []) old
  takes_nothing first old decoder input told piece s = (
    tt,
    inl (record {
      frames = s.frames;
      rest = s.rest ++ piece;
      begins = begins_longer input piece s.frames s.rest s.splits.begins;
      until = record {
        before = s.frames;
        left = [];
        mid = old;
        parts = sym (append-nil s.frames);
        answered = subst (λ (t : List ℕ). Answered answers first s.frames t old) (sym (append-nil told)) s.answered;
        may_answer = refl;
      };
    }),
  )

  -- a piece, and then the fault that stands behind it
  pub whole_more : (r : Result (Unit {0}) ServeEnd) (first new : S) (after : Option (List ℕ)) (input told output more : List ℕ)
      → Stands answers first after input (told ++ output) new → TellsBehind r after more → TakesWhole answers r first after input (told ++ (output ++ more)) new
  whole_more (Ok _) first new None input told output more s tells = absurd (tells.0 refl)
  whole_more (Ok _) first new (Some held) input told output more s tells =
      let whole : TakesWhole answers (Ok tt) first (Some held) input (told ++ output) new = (s, s.keeps.0) in
      subst (λ (t : List ℕ). TakesWhole answers (Ok tt) first (Some held) input (told ++ t) new)
      (sym (ap (λ (t : List ℕ). output ++ t) tells.1 ∙ append-nil output)) whole
  whole_more (Err end) first new (Some held) input told output more s tells = absurd (some_is_not_none held tells.0)
    where
      some_is_not_none : (kept : List ℕ) → Some kept ≡ None → ⊥
      some_is_not_none kept e = cc
  whole_more (Err end) first new None input told output more s tells =
      let ended : EndsPiece end × Serves answers end first (input ++ []) ((told ++ output) ++ more) new =
      takes_fault end first new None input (told ++ output) [] more s tt tells.1 in
      rw (append-nil input, append_assoc told output more) at ended
