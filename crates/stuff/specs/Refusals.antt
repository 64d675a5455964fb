-- The status of a volume that is refused.
use Rattle.formats.specs.declared.Status.{Status}
use Rattle.formats.specs.declared.Status.TheVariants as status
use Rattle.mha_read.specs.declared.VolFault.{VolFault}
use Rattle.mha_read.specs.declared.VolFault.TheVariants as volume

abbrev pub status_of_volume : VolFault → Status
status_of_volume (volume.TooLarge padded) = status.TooLarge padded
status_of_volume (volume.Truncated got wanted) = status.Truncated got wanted
status_of_volume volume.ReadFault = status.ReadFault
status_of_volume volume.NoMemory = status.NoMemory
