-- What pins do on their nets, and what so is known of a net.
use Rattle.std.specs.Prelude.{ℕ, true, false, nat_eq, ◌||◌, Option, Some, None}
use Rattle.std.specs.Prelude.{if◌then◌else◌}
use Rattle.ix_num.specs.declared.resource.Constant.{Constant}
use Rattle.ix_rec.specs.declared.device.Constants.{Constants}
use Rattle.ix_rec.specs.declared.device.Direction.{Direction}
use Rattle.ix_rec.specs.declared.device.Direction.TheVariants.{Input, Output, Inout}
use Rattle.ix_hierarchy.specs.declared.kind.Kind.{Kind}
use Rattle.ix_hierarchy.specs.declared.kind.Kind.TheVariants as kinds
use Rattle.ix_hierarchy.specs.Pins.{constant_pin}
use Rattle.ix_joined.specs.declared.pin.Role.{Role}
use Rattle.ix_joined.specs.declared.pin.Role.TheVariants as roles
use Rattle.ix_joined.specs.declared.state.NetState.{NetState}

-- of a bit of the top
abbrev pub role_towards : Direction → Role
role_towards Input = roles.Driver
role_towards Output = roles.Sink
role_towards Inout = roles.Nothing

-- of a plain leaf's pin
abbrev pub role_of_plain : Direction → Role
role_of_plain Input = roles.Sink
role_of_plain Output = roles.Driver
role_of_plain Inout = roles.Nothing

-- of a pin of a constant cell, by its written name
abbrev pub role_of_constant : Option Constants → Constant → (name : ℕ) → Role
role_of_constant None constant name = roles.Nothing
role_of_constant (Some constants) constant name =
    if nat_eq (constant_pin constants constant) name then roles.Constant constant else roles.Nothing

-- of a leaf's pin
abbrev pub role_in : Option Constants → Kind → Direction → (name : ℕ) → Role
role_in constants (kinds.Constant constant) dir name = role_of_constant constants constant name
role_in constants (kinds.Inside cell) dir name = role_of_plain dir
role_in constants kinds.Plain dir name = role_of_plain dir
role_in constants kinds.Unknown dir name = role_of_plain dir

-- of a net with no pin
abbrev pub nothing : NetState
nothing = record { driven = false; driven_twice = false; has_sink = false; constant = None }

-- with a further pin
abbrev pub with_role : NetState → Role → NetState
with_role state roles.Driver = record {
  driven = true;
  driven_twice = state.driven_twice || state.driven;
  has_sink = state.has_sink;
  constant = state.constant;
}
with_role state (roles.Constant constant) = record {
  driven = true;
  driven_twice = state.driven_twice || state.driven;
  has_sink = state.has_sink;
  constant = Some constant;
}
with_role state roles.Sink = record {
  driven = state.driven;
  driven_twice = state.driven_twice;
  has_sink = true;
  constant = state.constant;
}
with_role state roles.Nothing = state
