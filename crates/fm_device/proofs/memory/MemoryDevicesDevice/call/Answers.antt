use Rattle.fm_device.proofs.BaseCalls.{carries_call}
use Rattle.fm_device.proofs.memory.MemoryDevicesDevice.call.Goals as goal

pub returns-clause-carried : goal.returns-clause-carried
returns-clause-carried c = rw (← c.self.view_is) (carries_call c.self.inside.folders.all.items c.call.new.self.all.items
    c.args.call.now c.call.result c.call.ensures.carried)
