-- The kit's numbers of major functions, and their bits in a set of operations.
use Rattle.std.specs.Prelude.{ℕ, ◌==◌, Option, Some, None, cond}
use Rattle.fm_types.specs.declared.major.Major.{Major}
use Rattle.fm_types.specs.declared.major.Major.TheVariants as major

-- the kit's number
abbrev pub major_code : Major → ℕ
major_code major.CreateNamedPipe = 1
major_code major.QueryInformation = 5
major_code major.SetInformation = 6
major_code major.QueryEa = 7
major_code major.SetEa = 8
major_code major.QueryVolumeInformation = 10
major_code major.SetVolumeInformation = 11
major_code major.DirectoryControl = 12
major_code major.FileSystemControl = 13
major_code major.DeviceControl = 14
major_code major.InternalDeviceControl = 15
major_code major.Shutdown = 16
major_code major.LockControl = 17
major_code major.CreateMailslot = 19
major_code major.QuerySecurity = 20
major_code major.SetSecurity = 21
major_code major.Power = 22
major_code major.SystemControl = 23
major_code major.DeviceChange = 24
major_code major.QueryQuota = 25
major_code major.SetQuota = 26
major_code major.Pnp = 27
major_code major.VolumeDismount = 236
major_code major.VolumeMount = 237
major_code major.MdlWriteComplete = 238
major_code major.PrepareMdlWrite = 239
major_code major.MdlReadComplete = 240
major_code major.MdlRead = 241
major_code major.NetworkQueryOpen = 242
major_code major.FastIoCheckIfPossible = 243
major_code major.QueryOpen = 249
major_code major.ReleaseForCcFlush = 250
major_code major.AcquireForCcFlush = 251
major_code major.ReleaseForModWrite = 252
major_code major.AcquireForModWrite = 253
major_code major.ReleaseForSectionSynchronization = 254
major_code major.AcquireForSectionSynchronization = 255

-- the major function of a number
abbrev pub major_at : ℕ → Option Major
major_at code =
    cond (code == 1) (Some major.CreateNamedPipe) (
    cond (code == 5) (Some major.QueryInformation) (
    cond (code == 6) (Some major.SetInformation) (
    cond (code == 7) (Some major.QueryEa) (
    cond (code == 8) (Some major.SetEa) (
    cond (code == 10) (Some major.QueryVolumeInformation) (
    cond (code == 11) (Some major.SetVolumeInformation) (
    cond (code == 12) (Some major.DirectoryControl) (
    cond (code == 13) (Some major.FileSystemControl) (
    cond (code == 14) (Some major.DeviceControl) (
    cond (code == 15) (Some major.InternalDeviceControl) (
    cond (code == 16) (Some major.Shutdown) (
    cond (code == 17) (Some major.LockControl) (
    cond (code == 19) (Some major.CreateMailslot) (
    cond (code == 20) (Some major.QuerySecurity) (
    cond (code == 21) (Some major.SetSecurity) (
    cond (code == 22) (Some major.Power) (
    cond (code == 23) (Some major.SystemControl) (
    cond (code == 24) (Some major.DeviceChange) (
    cond (code == 25) (Some major.QueryQuota) (
    cond (code == 26) (Some major.SetQuota) (
    cond (code == 27) (Some major.Pnp) (
    cond (code == 236) (Some major.VolumeDismount) (
    cond (code == 237) (Some major.VolumeMount) (
    cond (code == 238) (Some major.MdlWriteComplete) (
    cond (code == 239) (Some major.PrepareMdlWrite) (
    cond (code == 240) (Some major.MdlReadComplete) (
    cond (code == 241) (Some major.MdlRead) (
    cond (code == 242) (Some major.NetworkQueryOpen) (
    cond (code == 243) (Some major.FastIoCheckIfPossible) (
    cond (code == 249) (Some major.QueryOpen) (
    cond (code == 250) (Some major.ReleaseForCcFlush) (
    cond (code == 251) (Some major.AcquireForCcFlush) (
    cond (code == 252) (Some major.ReleaseForModWrite) (
    cond (code == 253) (Some major.AcquireForModWrite) (
    cond (code == 254) (Some major.ReleaseForSectionSynchronization) (
    cond (code == 255) (Some major.AcquireForSectionSynchronization) (
    None)))))))))))))))))))))))))))))))))))))

-- the bit: 2 ^ (11 + c) for a number c below 28, else 2 ^ (294 - c)
abbrev pub major_bit : Major → ℕ
major_bit major.CreateNamedPipe = 4096
major_bit major.QueryInformation = 65536
major_bit major.SetInformation = 131072
major_bit major.QueryEa = 262144
major_bit major.SetEa = 524288
major_bit major.QueryVolumeInformation = 2097152
major_bit major.SetVolumeInformation = 4194304
major_bit major.DirectoryControl = 8388608
major_bit major.FileSystemControl = 16777216
major_bit major.DeviceControl = 33554432
major_bit major.InternalDeviceControl = 67108864
major_bit major.Shutdown = 134217728
major_bit major.LockControl = 268435456
major_bit major.CreateMailslot = 1073741824
major_bit major.QuerySecurity = 2147483648
major_bit major.SetSecurity = 4294967296
major_bit major.Power = 8589934592
major_bit major.SystemControl = 17179869184
major_bit major.DeviceChange = 34359738368
major_bit major.QueryQuota = 68719476736
major_bit major.SetQuota = 137438953472
major_bit major.Pnp = 274877906944
major_bit major.VolumeDismount = 288230376151711744
major_bit major.VolumeMount = 144115188075855872
major_bit major.MdlWriteComplete = 72057594037927936
major_bit major.PrepareMdlWrite = 36028797018963968
major_bit major.MdlReadComplete = 18014398509481984
major_bit major.MdlRead = 9007199254740992
major_bit major.NetworkQueryOpen = 4503599627370496
major_bit major.FastIoCheckIfPossible = 2251799813685248
major_bit major.QueryOpen = 35184372088832
major_bit major.ReleaseForCcFlush = 17592186044416
major_bit major.AcquireForCcFlush = 8796093022208
major_bit major.ReleaseForModWrite = 4398046511104
major_bit major.AcquireForModWrite = 2199023255552
major_bit major.ReleaseForSectionSynchronization = 1099511627776
major_bit major.AcquireForSectionSynchronization = 549755813888
