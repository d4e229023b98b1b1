-- What a one-thread manager answers to a frame: what the call that the frame names answers, and what that call makes of the manager.
use Rattle.std.specs.Prelude.{◌≡◌, List, ℕ, Result}
use Rattle.fm_types.specs.declared.ids.FilterId.{FilterId}
use Rattle.fm_types.specs.declared.ids.InstanceId.{InstanceId}
use Rattle.fm_types.specs.declared.ids.VolumeId.{VolumeId}
use Rattle.fm_types.specs.declared.status.Status.{Status}
use Rattle.fm_types.specs.declared.status.Status.TheVariants.{BadRequest}
use Rattle.fm_callback_data.specs.declared.request.Reply.{Reply}
use Rattle.fm_callback_data.specs.declared.request.Request.{Request}
use Rattle.fm_wire.specs.declared.frame.Control.{Control}
use Rattle.fm_wire.specs.declared.frame.Control.TheVariants as control
use Rattle.fm_filter.specs.declared.minifilter.Minifilter as filter
use Rattle.fm_base.specs.declared.base.Base as base
use Rattle.fm_local.specs.declared.parts.Parts.{Parts}
use Rattle.fm_local.specs.Actions.{RefusesIn}
use Rattle.fm_local.specs.Offered.{AnswersAny, AnswersReady, AttachesAny, AttachesReady, DetachesAny, DetachesReady, LoadsAs, StaysReadyAlike, StaysReadyIfPlain}
use Rattle.fm_local.specs.Offered.{UnloadsAny, UnloadsReady}
use Rattle.fm_local_exec.specs.Said.{filter_reply, instance_reply, number_reply, status_reply, unit_reply}

module _ {F B : Type 0} (f : filter.Ghosts F) (b : base.Ghosts B) where
  -- ---- the manager's calls

  -- a request: by the events of its operation, and of a manager that is ready the fold of its filters over its file systems
  pub record Answers (what : Request) (old : Parts F B) (said : Reply) (new : Parts F B) : Type 0 where
    pub fold : AnswersReady f b what old said new
    pub refused : RefusesIn what old said new
    pub events : AnswersAny f b what old said new

  pub record Loads (name : List ℕ) (old : Parts F B) (r : Result FilterId Status) (new : Parts F B) : Type 0 where
    pub event : LoadsAs f name old r new
    pub ready : StaysReadyIfPlain f b old new

  pub record Attaches (i : FilterId) (v : VolumeId) (name altitude : List ℕ) (old : Parts F B) (r : Result InstanceId Status) (new : Parts F B) : Type 0 where
    pub events : AttachesAny f b i v name altitude old r new
    pub quiet : AttachesReady f b i v name altitude old r new
    pub ready : StaysReadyAlike f b old new

  pub record Detaches (i : InstanceId) (old : Parts F B) (r : Result (Unit {0}) Status) (new : Parts F B) : Type 0 where
    pub events : DetachesAny f b i old r new
    pub quiet : DetachesReady f b i old r new
    pub ready : StaysReadyAlike f b old new

  pub record Unloads (i : FilterId) (old : Parts F B) (r : Result (Unit {0}) Status) (new : Parts F B) : Type 0 where
    pub events : UnloadsAny f b i old r new
    pub quiet : UnloadsReady f b i old r new
    pub ready : StaysReadyAlike f b old new

  -- ---- controls

  abbrev pub AnswersControl : Control → Parts F B → Reply → Parts F B → Type 0
  AnswersControl (control.Load name) old said new = (r : Result FilterId Status) × Loads name old r new × (said ≡ filter_reply r)
  AnswersControl (control.Attach i v name altitude) old said new = (r : Result InstanceId Status)
      × Attaches i v name altitude old r new × (said ≡ instance_reply r)
  AnswersControl (control.Detach i) old said new = (r : Result (Unit {0}) Status) × Detaches i old r new × (said ≡ unit_reply r)
  AnswersControl (control.Unload i) old said new = (r : Result (Unit {0}) Status) × Unloads i old r new × (said ≡ unit_reply r)
  AnswersControl (control.Dismount v) old said new = (said ≡ status_reply BadRequest) × (new ≡ old)
  AnswersControl control.Stop old said new = (said ≡ number_reply 0) × (new ≡ old)
