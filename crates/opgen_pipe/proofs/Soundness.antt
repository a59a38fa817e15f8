-- The design of a valid net at a schedule that fits is sound, where the net's names can stand in it.
use Rattle.opgen_pipe.specs.Laws.{DesignIsSound}
use Rattle.opgen_pipe.proofs.SoundNames.{declared_once}
use Rattle.opgen_pipe.proofs.SoundWidths.{widths_agree}
use Rattle.opgen_pipe.proofs.SoundDrivers.{all_declared, driven_once, all_driven, in_order, reads_inputs, have_initials, all_addresses_differ, enable_fits}

pub design_sound : DesignIsSound
design_sound called enable net delays setup period s valid named fits few = record {
  declared = all_declared called enable net s delays setup period valid fits;
  declared_once = declared_once called enable net s named few;
  widths = widths_agree called enable net s delays setup period valid fits;
  driven_once = driven_once called enable net s delays setup period valid fits;
  driven = all_driven called enable net s delays setup period valid fits;
  ordered = in_order called enable net s delays setup period valid fits;
  reads_inputs = reads_inputs called enable net s delays setup period valid fits;
  initials = have_initials called enable net s delays setup period valid fits;
  addresses = all_addresses_differ called enable net s delays setup period valid fits;
  enable = enable_fits called enable net s delays setup period valid fits;
}
