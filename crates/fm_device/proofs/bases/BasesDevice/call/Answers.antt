use Rattle.std.proofs.Common.{ap, arith}
use Rattle.fm_types.specs.declared.ids.VolumeId.{VolumeId}
use Rattle.fm_device.proofs.BaseCalls.{there, none_there}
use Rattle.fm_device.proofs.bases.BasesDevice.call.Goals as goal

pub returns-in-Some-clause-carried : goal.returns-in-Some-clause-carried
returns-in-Some-clause-carried g c =
    there g.B.Base.folder g.B.Base.faults c.args.self.now.all.items c.args.call.now c.call_base.result c.volume.result.0
    (ap (λ (v : VolumeId). v.0) c.volume.ensures) c.in-Some.base.now c.call_base.new.base
    c.in-Some.ensures.item.3.0 (c.in-Some.ensures.item.4 (omega arith) c.in-Some.base.now) c.call_base.ensures.carried c.call_base.ensures.counts

pub returns-in-None-clause-carried : goal.returns-in-None-clause-carried
returns-in-None-clause-carried g c =
    none_there g.B.Base.folder g.B.Base.faults c.args.self.now.all.items c.args.call.now c.refused.result c.volume.result.0
    (ap (λ (v : VolumeId). v.0) c.volume.ensures) c.in-None.ensures.item.3 c.refused.ensures
