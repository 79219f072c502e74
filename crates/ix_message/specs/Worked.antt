-- Files that were worked out by hand or written by another program, to try the definitions on.
use Prim.Native.String.{String}
use Rattle.std.specs.Prelude.{Option, ℕ, List, [], ◌∷◌, codes, Some, None}
use Rattle.std.specs.List.{flat_map}
use Rattle.byteorder.specs.Endian.{little_bytes}
use Rattle.ix_message.specs.Shape.{Value, ends, branch}
use Rattle.ix_message.specs.Indexes.{Item}
use Rattle.ix_message.specs.Names.{Datum, the_number, the_text}
use Rattle.ix_message.specs.Device.{device}
use Rattle.ix_message.specs.Netlist.{netlist}
use Rattle.ix_message.specs.Phys.{phys_netlist}
use Rattle.ix_message.specs.Packed.{packed}

-- a file by its words
abbrev pub file_of : List ℕ → List ℕ
file_of words = flat_map (little_bytes 8) words

abbrev pub name : String → Datum
name s = the_text (codes s)

abbrev pub plain : ℕ → Datum
plain n = the_number n

-- A design of one declaration without a name, whose top instance is a zero pointer.
abbrev pub small_file : List ℕ
small_file = file_of (
    0x800000000 ∷ 0x5000000000000 ∷ 0 ∷ 0 ∷ 0 ∷ 0xe00000005 ∷
    0x700000005 ∷ 0 ∷ 4 ∷ [])

abbrev pub small_record : Value Datum netlist
small_record = (
  [],
  (
    [],
    (
      [],
      (
        ((name "" ∷ plain 0 ∷ []), ([], tt)),
        (
          (((name "" ∷ []), ([], tt)) ∷ []),
          (
            [],
            (
              [],
              (
                [],
                tt,
              ),
            ),
          ),
        ),
      ),
    ),
  ),
)

-- The physical netlist without anything.
abbrev pub empty_file : List ℕ
empty_file = file_of (
    0x700000000 ∷ 0x6000000000000 ∷ 0 ∷ 0 ∷ 0 ∷ 0 ∷
    0 ∷ 0 ∷ [])

abbrev pub empty_record : Value Datum phys_netlist
empty_record =
    ([], ([], ([], ([], ([], ([], tt))))))

-- Two cells, a driver and a load, and a net that joins them.
abbrev pub pair_file : List ℕ
pair_file = file_of (
    0x4200000000 ∷ 0x8000000000000 ∷ 0x2a0000001d ∷ 0 ∷ 0x1000100000018 ∷ 0x460000001d ∷
    0x3700000059 ∷ 0x4700000079 ∷ 0x2700000099 ∷ 0x1f000000a9 ∷ 0x35776f72 ∷ 0 ∷
    0 ∷ 0x220000001d ∷ 0x220000001d ∷ 0x2a0000001d ∷ 0x120000001d ∷ 0x120000001d ∷
    0x1a0000001d ∷ 0x1a0000001d ∷ 0x1a0000001d ∷ 0x706f74 ∷ 0x565244 ∷ 0x44414f4c ∷
    0x4f ∷ 0x49 ∷ 0x3064 ∷ 0x3065 ∷ 0x306e ∷ 0x100010000000c ∷
    0 ∷ 0 ∷ 1 ∷ 0xc00000009 ∷ 2 ∷ 0xc00000005 ∷
    0 ∷ 1 ∷ 0x1000300000008 ∷ 0x100000003 ∷ 0 ∷ 0 ∷
    0 ∷ 4 ∷ 0 ∷ 0 ∷ 0 ∷ 0x1000100000008 ∷
    0x100000005 ∷ 0 ∷ 0x200000006 ∷ 0 ∷ 0x2000100000004 ∷ 0 ∷
    0x1400000005 ∷ 0x1700000005 ∷ 0x100000000 ∷ 0x1000100000004 ∷ 7 ∷ 0x3700000001 ∷
    0x300000008 ∷ 0 ∷ 0x100000000 ∷ 0 ∷ 1 ∷ 0x100000000 ∷
    1 ∷ [])

abbrev pub pair_record : Value Datum netlist
pair_record = (
  [],
  (
    (codes "row5"),
    (
      [],
      (
        ((name "top" ∷ plain 0 ∷ []), ([], tt)),
        (
          (((name "top" ∷ []), ([], tt)) ∷ (
            (name
                "DRV" ∷ []),
            ((plain 0 ∷ []), tt),
          ) ∷ ((name "LOAD" ∷ []), ((plain 1 ∷ []), tt)) ∷ []),
          (
            ((
              (name "O" ∷ plain 1 ∷
                  plain 0 ∷ plain 0 ∷ plain 0 ∷ []),
              ([], tt),
            ) ∷ (
              (name "I" ∷ plain 0 ∷ plain 0 ∷ plain 0 ∷ plain 0 ∷ []),
              (
                [],
                tt,
              ),
            ) ∷ []),
            (
              (((name "d0" ∷ plain 1 ∷ []), ([], tt)) ∷ ((name "e0" ∷ plain 2 ∷ []), ([], tt))
                  ∷ []),
              (
                ((
                  (plain 0
                      ∷ []),
                  (
                    (plain 0 ∷ plain 1 ∷ []),
                    (
                      ((
                        (name "n0" ∷ []),
                        (
                          ((
                            (plain 0 ∷ plain 0 ∷ plain 0 ∷ plain 1 ∷ plain 0 ∷
                                []),
                            tt,
                          ) ∷ ((plain 1 ∷ plain 0 ∷ plain 0 ∷ plain 1 ∷ plain 1 ∷ []), tt) ∷ []),
                          tt,
                        ),
                      ) ∷ []),
                      tt,
                    ),
                  ),
                ) ∷ []),
                tt,
              ),
            ),
          ),
        ),
      ),
    ),
  ),
)

-- A bus, a net on one of its bits, and properties of the three kinds.
abbrev pub bus_file : List ℕ
bus_file = file_of (
    0x3400000000 ∷ 0x8000000000000 ∷ 0x120000001d ∷ 0x100000000001c ∷ 0x1000100000038 ∷ 0x360000003d
    ∷
    0x1700000069 ∷ 0x2700000075 ∷ 0 ∷ 0x1f00000081 ∷ 0x70 ∷ 0x3700000001 ∷
    0x20000000c ∷ 0 ∷ 1 ∷ 0x100000002 ∷ 7 ∷ 0x200000000 ∷
    1 ∷ 3 ∷ 0 ∷ 0x1200000015 ∷ 0x1200000015 ∷ 0x1200000015 ∷
    0x2200000015 ∷ 0x1a00000015 ∷ 0x1200000015 ∷ 0x61 ∷ 0x78 ∷ 0x62 ∷
    0x706f74 ∷ 0x6e69 ∷ 0x6e ∷ 0x1000100000004 ∷ 3 ∷ 0xc00000001 ∷
    0 ∷ 0x1000300000004 ∷ 4 ∷ 0x300000001 ∷ 0 ∷ 0 ∷
    0x2000100000004 ∷ 0 ∷ 0 ∷ 0x1700000001 ∷ 0x1000100000004 ∷ 5 ∷
    0x1f00000001 ∷ 0x300000004 ∷ 0x100000000 ∷ 3 ∷ 0 ∷ [])

abbrev pub bus_record : Value Datum netlist
bus_record = (
  [],
  (
    (codes "p"),
    (
      (((name "a" ∷ plain 0 ∷ name "x" ∷ []), tt) ∷ ((name "b" ∷ plain 1 ∷ plain 7 ∷ []), tt) ∷
          ((name "a" ∷ plain 2 ∷ plain 1 ∷ []), tt) ∷ []),
      (
        ((name "top" ∷ plain 0 ∷ []), ([], tt)),
        (
          ((
            (name "top" ∷ []),
            ((plain 0 ∷ []), tt),
          ) ∷ []),
          (
            (((name "in" ∷ plain 0 ∷ plain 1 ∷ plain 3 ∷ plain 0 ∷ []), ([], tt)) ∷ []),
            (
              [],
              (
                ((
                  (plain 0 ∷ []),
                  (
                    [],
                    (
                      ((
                        (name "n" ∷ []),
                        (
                          (((plain 0 ∷ plain 1 ∷ plain 3 ∷ plain 0 ∷ plain 0 ∷ []), tt) ∷
                              []),
                          tt,
                        ),
                      ) ∷ []),
                      tt,
                    ),
                  ),
                ) ∷ []),
                tt,
              ),
            ),
          ),
        ),
      ),
    ),
  ),
)

-- A device of one tile with two site types and a node that joins their pins.
abbrev pub tile_file : List ℕ
tile_file = file_of (
    0xaf00000000 ∷ 0xd000000000000 ∷ 0x1a00000031 ∷ 0xb600000031 ∷ 0x67000000dd ∷ 0x2f000001a5 ∷
    0x1f000001f5 ∷ 0x1700000215 ∷ 0xf0000021d ∷ 0 ∷ 0 ∷ 0x270000021d ∷
    0 ∷ 0x2000200000270 ∷ 0x200000000027c ∷ 0x354d ∷ 0x2200000055 ∷ 0x1200000055 ∷
    0x1a00000055 ∷ 0x2200000055 ∷ 0x1200000055 ∷ 0x1a00000055 ∷ 0x1a00000055 ∷ 0x1a00000055 ∷
    0x1a00000055 ∷ 0x1a00000055 ∷ 0x1a00000055 ∷ 0x1a00000055 ∷ 0x1a00000055 ∷ 0x1a00000055 ∷
    0x1a00000055 ∷ 0x1a00000055 ∷ 0x2200000055 ∷ 0x2a00000055 ∷ 0x2200000055 ∷ 0x1200000055 ∷
    0x2200000055 ∷ 0x1200000055 ∷ 0x435253 ∷ 0x4f ∷ 0x424f ∷ 0x4b4e53 ∷
    0x49 ∷ 0x4249 ∷ 0x544d ∷ 0x3053 ∷ 0x3153 ∷ 0x3054 ∷
    0x3154 ∷ 0x304d ∷ 0x3073 ∷ 0x3173 ∷ 0x3074 ∷ 0x3174 ∷
    0x565244 ∷ 0x44414f4c ∷ 0x444e47 ∷ 0x47 ∷ 0x434356 ∷ 0x50 ∷
    0x5000100000008 ∷ 0 ∷ 0x2700000029 ∷ 0x1700000039 ∷ 0x3700000041 ∷ 0 ∷
    0x1700000055 ∷ 3 ∷ 0x270000005d ∷ 0x170000006d ∷ 0x3700000075 ∷ 0 ∷
    0x1700000089 ∷ 0x200000008 ∷ 0x100000001 ∷ 2 ∷ 1 ∷ 1 ∷
    0x200000004 ∷ 0x100000001 ∷ 1 ∷ 0x300000008 ∷ 2 ∷ 0 ∷
    0 ∷ 0x200000001 ∷ 0 ∷ 0 ∷ 0x1000100000004 ∷ 1 ∷
    0x1400000001 ∷ 0x100000000 ∷ 0x200000008 ∷ 4 ∷ 5 ∷ 0x100000004 ∷
    4 ∷ 0x200000004 ∷ 4 ∷ 1 ∷ 0x300000008 ∷ 5 ∷
    0 ∷ 0 ∷ 0x200000004 ∷ 0 ∷ 0 ∷ 0x1000100000004 ∷
    4 ∷ 0x1400000001 ∷ 1 ∷ 0x4000100000004 ∷ 6 ∷ 0x470000000d ∷
    0x240000003d ∷ 0 ∷ 0 ∷ 0x1000100000010 ∷ 0 ∷ 0xc00000019 ∷
    0 ∷ 0xc00000015 ∷ 1 ∷ 0xc00000011 ∷ 1 ∷ 0xc0000000d ∷
    7 ∷ 8 ∷ 9 ∷ 0xa ∷ 0x800000007 ∷ 0xa00000009 ∷
    0x1000200000004 ∷ 0xb ∷ 0 ∷ 0x2700000001 ∷ 0x100000010 ∷ 0xc ∷
    0x10000000d ∷ 0x20000000e ∷ 0x30000000f ∷ 0x100000008 ∷ 0x70000000b ∷ 0x90000000b ∷
    0x1000000000004 ∷ 0x1400000001 ∷ 0x100000000 ∷ 0x1000100000008 ∷ 0x10 ∷ 0x1700000009 ∷
    0x11 ∷ 0x1700000025 ∷ 0x2000000000004 ∷ 0x1700000005 ∷ 0xf00000011 ∷ 0x1000100000004 ∷
    0 ∷ 0xc00000001 ∷ 2 ∷ 0x100000004 ∷ 0x100000001 ∷ 0x2000000000004 ∷
    0x1700000005 ∷ 0xf00000011 ∷ 0x1000100000004 ∷ 3 ∷ 0xc00000001 ∷ 5 ∷
    0x100000004 ∷ 0x400000004 ∷ 0x1300000012 ∷ 0x1500000014 ∷ 0 ∷ 0 ∷
    0 ∷ 0 ∷ [])

abbrev pub tile_record : Value Datum device
tile_record = (
  [],
  (
    (codes "M5"),
    (
      ((
        (name "SRC" ∷ []),
        (
          (((name "O" ∷ plain 1 ∷ name "OB" ∷ []), tt) ∷ (
            (name "O" ∷ plain 0 ∷
                name "O" ∷ []),
            tt,
          ) ∷ []),
          (
            (((name "O" ∷ plain 1 ∷ plain 1 ∷ []), tt) ∷ []),
            (
              ((
                (name "OB" ∷ plain 0 ∷ plain 0
                    ∷ plain 0 ∷ plain 0 ∷ []),
                tt,
              ) ∷ ((name "O" ∷ plain 2 ∷ plain 0 ∷ plain 0 ∷ plain 0 ∷ []), tt) ∷ []),
              (
                [],
                ((((name "O" ∷ []), ((plain 0 ∷ plain 1 ∷ []), tt)) ∷ []), tt),
              ),
            ),
          ),
        ),
      ) ∷ (
        (name "SNK" ∷ []),
        (
          ((
            (name "I" ∷ plain 0
                ∷ name "IB" ∷ []),
            tt,
          ) ∷ ((name "I" ∷ plain 1 ∷ name "I" ∷ []), tt) ∷ []),
          (
            ((
              (name "I" ∷ plain 0 ∷ plain 1 ∷
                  []),
              tt,
            ) ∷ []),
            (
              (((name "IB" ∷ plain 0 ∷ plain 0 ∷ plain 0 ∷ plain 0 ∷ []), tt) ∷ (
                (name "I" ∷ plain 2 ∷ plain
                    0 ∷ plain 0 ∷ plain 0 ∷ []),
                tt,
              ) ∷ []),
              ([], ((((name "I" ∷ []), ((plain 1 ∷ plain 0 ∷ []), tt)) ∷ []), tt)),
            ),
          ),
        ),
      )
          ∷ []),
      (
        ((
          (name "MT" ∷ []),
          (
            (((plain 0 ∷ []), ((name "S0" ∷ []), tt)) ∷ (
              (plain 0 ∷ []),
              (
                (name "S1" ∷ []),
                tt,
              ),
            ) ∷ ((plain 1 ∷ []), ((name "T0" ∷ []), tt)) ∷ ((plain 1 ∷ []), ((name "T1" ∷ []), tt))
                ∷ []),
            (
              (name "S0" ∷
                  name "S1" ∷ name "T0" ∷ name "T1" ∷ []),
              ([], ([], tt)),
            ),
          ),
        ) ∷ []),
        (
          ((
            (name "M0" ∷ plain 0 ∷ plain 0 ∷ plain 0 ∷
                []),
            (
              (((name "s0" ∷ plain 0 ∷ []), tt) ∷ ((name "s1" ∷ plain 1 ∷ []), tt)
                  ∷ ((name "t0" ∷ plain 2 ∷ []), tt) ∷
                  ((name "t1" ∷ plain 3 ∷ []), tt) ∷ []),
              tt,
            ),
          ) ∷ []),
          (
            (((name "M0" ∷ name "S0" ∷ []), tt) ∷ (
              (name "M0" ∷ name
                  "T0" ∷ []),
              tt,
            ) ∷ []),
            (
              (([], ((plain 0 ∷ plain 1 ∷ []), tt)) ∷ []),
              (
                ((
                  (name "DRV" ∷ []),
                  (
                    ((
                      [],
                      (
                        ((
                          (name "SRC"
                              ∷ []),
                          ((name "OB" ∷ []), tt),
                        ) ∷ []),
                        ((((name "O" ∷ name "O" ∷ []), tt) ∷ []), tt),
                      ),
                    ) ∷ []),
                    tt,
                  ),
                ) ∷ (
                  (name
                      "LOAD" ∷ []),
                  (
                    ((
                      [],
                      (
                        (((name "SNK" ∷ []), ((name "IB" ∷ []), tt)) ∷ []),
                        (
                          (((name "I" ∷ name "I" ∷ []), tt) ∷
                              []),
                          tt,
                        ),
                      ),
                    ) ∷ []),
                    tt,
                  ),
                ) ∷ []),
                (
                  [],
                  (
                    (Some (
                      (name "GND" ∷ name "G" ∷ name "VCC" ∷ name "P" ∷ []),
                      (
                        [],
                        (
                          [],
                          tt,
                        ),
                      ),
                    )),
                    (([], ([], ([], tt))), tt),
                  ),
                ),
              ),
            ),
          ),
        ),
      ),
    ),
  ),
)

-- The pair placed and routed on that device, and branches of each kind.
abbrev pub routed_file : List ℕ
routed_file = file_of (
    0x6100000000 ∷ 0x6000000000000 ∷ 0x1a00000015 ∷ 0x9e00000015 ∷ 0x37000000a9 ∷ 0x1f000000d9 ∷
    0x1700000159 ∷ 0xf00000161 ∷ 0x354d ∷ 0x1a00000049 ∷ 0x2200000049 ∷ 0x1a00000049 ∷
    0x1a00000049 ∷ 0x1200000049 ∷ 0x1a00000049 ∷ 0x2a00000049 ∷ 0x1a00000049 ∷ 0x1a00000049 ∷
    0x1200000049 ∷ 0x1a00000049 ∷ 0x1a00000049 ∷ 0x1a00000049 ∷ 0x1a00000049 ∷ 0x1200000049 ∷
    0x2200000049 ∷ 0x2200000049 ∷ 0x1200000049 ∷ 0x1200000049 ∷ 0x3064 ∷ 0x565244 ∷
    0x3073 ∷ 0x424f ∷ 0x4f ∷ 0x3065 ∷ 0x44414f4c ∷ 0x3074 ∷
    0x4249 ∷ 0x49 ∷ 0x306e ∷ 0x304d ∷ 0x3053 ∷ 0x3054 ∷
    0x58 ∷ 0x435253 ∷ 0x4b4e53 ∷ 0x6b ∷ 0x76 ∷ 0x1000200000008 ∷
    0x100000000 ∷ 0x300000002 ∷ 0x170000000d ∷ 0x600000005 ∷ 0x800000007 ∷ 0x170000000d ∷
    0x200000004 ∷ 0x300000004 ∷ 4 ∷ 0x200000004 ∷ 0x800000009 ∷ 9 ∷
    0x2000100000004 ∷ 0xa ∷ 0x2700000005 ∷ 0x4700000051 ∷ 0x1000300000004 ∷ 0x200000000 ∷
    0x400000003 ∷ 0 ∷ 0x2700000001 ∷ 0x1000300000004 ∷ 0x200000001 ∷ 4 ∷
    0 ∷ 0x2700000001 ∷ 0x1000300000004 ∷ 0x700000001 ∷ 9 ∷ 0 ∷
    0x2700000001 ∷ 0x1000300000004 ∷ 0x700000000 ∷ 0x900000008 ∷ 0 ∷ 0 ∷
    0x1000300000008 ∷ 0xb00000002 ∷ 0xd0000000c ∷ 1 ∷ 0 ∷ 0x200000003 ∷
    0x90000000e ∷ 0 ∷ 0 ∷ 0x100000008 ∷ 0xf00000002 ∷ 0x1000000007 ∷
    0x100000004 ∷ 0x1200000011 ∷ [])

abbrev pub routed_record : Value Datum phys_netlist
routed_record = (
  [],
  (
    (codes "M5"),
    (
      ((
        (name "d0" ∷ name "DRV" ∷ name "s0" ∷ name "OB" ∷ []),
        (
          ((
            (name "O" ∷ name "OB" ∷ name
                "O" ∷ []),
            tt,
          ) ∷ []),
          tt,
        ),
      ) ∷ (
        (name "e0" ∷ name "LOAD" ∷ name "t0" ∷ name "IB" ∷ []),
        (
          ((
            (name "I" ∷ name "IB" ∷
                name "I" ∷ []),
            tt,
          ) ∷ []),
          tt,
        ),
      ) ∷ []),
      (
        ((
          (name "n0" ∷ plain 0 ∷ []),
          (
            (branch (plain 0 ∷ name "s0" ∷ name "OB"
                ∷ name "O" ∷ plain 0 ∷ []) (branch (plain 1 ∷ name "s0" ∷ name "O" ∷ plain 0
                ∷ plain 0 ∷ []) (branch (plain 1 ∷
                name "t0" ∷ name "I" ∷ plain 0 ∷ plain 0 ∷ [])
                (branch (plain 0 ∷ name "t0" ∷ name "IB" ∷ name "I" ∷ plain 0 ∷
                []) ends ends) ends) ends) ends),
            (
              (branch (plain 2 ∷ name "M0" ∷ name "S0" ∷ name "T0" ∷ plain 1 ∷ []) ends
                  (branch (plain 3 ∷ name "s0" ∷ name "X" ∷ name "I" ∷ plain 0 ∷ []) ends ends)),
              tt,
            ),
          ),
        ) ∷ []),
        (
          ((
            (name "s0" ∷
                name "SRC" ∷ []),
            tt,
          ) ∷ ((name "t0" ∷ name "SNK" ∷ []), tt) ∷ []),
          (
            (((name "k" ∷ name "v" ∷ []), tt) ∷ []),
            tt,
          ),
        ),
      ),
    ),
  ),
)

-- The pair packed.
abbrev pub clusters_file : List ℕ
clusters_file = file_of (
    0x1800000000 ∷ 0x2000000000000 ∷ 0x3600000005 ∷ 0x2700000031 ∷ 0x2200000015 ∷ 0x1a00000015 ∷
    0x1a00000015 ∷ 0x2200000015 ∷ 0x1a00000015 ∷ 0x1a00000015 ∷ 0x435253 ∷ 0x3064 ∷
    0x424f ∷ 0x4b4e53 ∷ 0x3065 ∷ 0x4249 ∷ 0x1000100000008 ∷ 0 ∷
    0xf00000009 ∷ 3 ∷ 0xf00000009 ∷ 0x100000004 ∷ 0x200000001 ∷ 0x100000004 ∷
    0x500000004 ∷ [])

abbrev pub clusters_record : Value Datum packed
clusters_record = (
  [],
  (
    (((name "SRC" ∷ []), ((((name "d0" ∷ name "OB" ∷ []), tt) ∷ []), tt)) ∷ (
      (name "SNK" ∷ []),
      (
        ((
          (name "e0"
              ∷ name "IB" ∷ []),
          tt,
        ) ∷ []),
        tt,
      ),
    ) ∷ []),
    tt,
  ),
)

-- A device with each struct and each form of field.
abbrev pub whole_file : List ℕ
whole_file = file_of (
    0xb700000000 ∷ 0xd000000000000 ∷ 0x1200000031 ∷ 0xb600000031 ∷ 0x37000000dd ∷ 0x2f00000149 ∷
    0x1f000001a1 ∷ 0x17000001b5 ∷ 0x17000001bd ∷ 0 ∷ 0 ∷ 0x17000001c1 ∷
    0x17000001ed ∷ 0x2000200000208 ∷ 0x200000000022c ∷ 0x44 ∷ 0x1200000055 ∷ 0x1200000055 ∷
    0x1200000055 ∷ 0x1200000055 ∷ 0x1200000055 ∷ 0x1200000055 ∷ 0x1200000055 ∷ 0x1200000055 ∷
    0x1200000055 ∷ 0x1200000055 ∷ 0x1200000055 ∷ 0x1200000055 ∷ 0x1200000055 ∷ 0x1200000055 ∷
    0x1200000055 ∷ 0x1200000055 ∷ 0x1200000055 ∷ 0x1200000055 ∷ 0x2200000055 ∷ 0x1200000055 ∷
    0x2200000055 ∷ 0x1200000055 ∷ 0x53 ∷ 0x70 ∷ 0x62 ∷ 0x71 ∷
    0x4f ∷ 0x6d ∷ 0x77 ∷ 0x54 ∷ 0x41 ∷ 0x42 ∷
    0x43 ∷ 0x74 ∷ 0x73 ∷ 0x63 ∷ 0x49 ∷ 0x6b ∷
    0x31 ∷ 0x32 ∷ 0x444e47 ∷ 0x47 ∷ 0x434356 ∷ 0x50 ∷
    0x5000100000004 ∷ 0 ∷ 0x2700000011 ∷ 0x1700000021 ∷ 0x3700000029 ∷ 0xf00000041 ∷
    0x1700000045 ∷ 0x200000008 ∷ 0x100000001 ∷ 2 ∷ 3 ∷ 2 ∷
    0x200000004 ∷ 0x100000004 ∷ 0 ∷ 0x300000008 ∷ 2 ∷ 0 ∷
    0 ∷ 0x100000005 ∷ 1 ∷ 1 ∷ 0x100000004 ∷ 1 ∷
    0x1000100000004 ∷ 6 ∷ 0x1400000001 ∷ 0x100000000 ∷ 0x4000100000004 ∷ 7 ∷
    0x170000000d ∷ 0x1c00000019 ∷ 0x270000001d ∷ 0x270000002d ∷ 0x1000100000004 ∷ 0 ∷
    0xc00000001 ∷ 8 ∷ 0x900000008 ∷ 0xa ∷ 0x200000008 ∷ 0x100000000 ∷
    1 ∷ 0x100000002 ∷ 0x100000000 ∷ 0x1000100000008 ∷ 1 ∷ 0xc00000009 ∷
    2 ∷ 0 ∷ 2 ∷ 0x1000200000004 ∷ 0xb ∷ 0x1117000000003 ∷
    0xf00000001 ∷ 0x100000004 ∷ 0xc ∷ 0x100000008 ∷ 0x80000000b ∷ 0x90000000b ∷
    0x1000000000008 ∷ 0x1400000005 ∷ 0 ∷ 0x100000000 ∷ 0x1000100000004 ∷ 0xd ∷
    0x1700000001 ∷ 0x2000000000004 ∷ 0x1700000005 ∷ 0xf00000011 ∷ 0x1000100000004 ∷ 0 ∷
    0x1400000001 ∷ 0x500000002 ∷ 0x100000004 ∷ 0x30000000e ∷ 0x1000100000004 ∷ 0xf ∷
    0x2700000001 ∷ 0x200000008 ∷ 0x100000010 ∷ 0xc ∷ 0x11 ∷ 0 ∷
    0x1300000012 ∷ 0x1500000014 ∷ 0x1700000005 ∷ 0x170000000d ∷ 0x200000004 ∷ 0x200000000 ∷
    0x200000001 ∷ 0x200000004 ∷ 0xa0000000b ∷ 1 ∷ 0x2700000005 ∷ 0x170000002d ∷
    0x3000100000004 ∷ 1 ∷ 0x2a00000009 ∷ 0x1600000009 ∷ 0x2a00000015 ∷ 0x3254554c ∷
    0x1a00000005 ∷ 0x1a00000005 ∷ 0x3049 ∷ 0x3149 ∷ 0x54494e49 ∷ 0x2000000000004 ∷
    0x1200000005 ∷ 0x1700000005 ∷ 0x53 ∷ 0x1000100000004 ∷ 4 ∷ 0x2700000001 ∷
    0x3000100000004 ∷ 0x300000000 ∷ 0x1200000009 ∷ 0x1600000009 ∷ 0x1200000011 ∷ 0x62 ∷
    0x1200000005 ∷ 0 ∷ 0x71 ∷ 0x70 ∷ [])

abbrev pub whole_record : Value Datum device
whole_record = (
  [],
  (
    (codes "D"),
    (
      ((
        (name "S" ∷ []),
        (
          (((name "p" ∷ plain 1 ∷ name "b" ∷ []), tt) ∷ (
            (name "q" ∷ plain 0 ∷
                name "b" ∷ []),
            tt,
          ) ∷ []),
          (
            (((name "O" ∷ plain 1 ∷ plain 0 ∷ []), tt) ∷ []),
            (
              ((
                (name "b" ∷ plain 0 ∷ plain 0 ∷
                    plain 0 ∷ plain 0 ∷ []),
                tt,
              ) ∷ ((name "m" ∷ plain 1 ∷ plain 1 ∷ plain 0 ∷ plain 1 ∷ []), tt) ∷ []),
              (
                ((
                  (plain 1
                      ∷ plain 0 ∷ []),
                  tt,
                ) ∷ []),
                ((((name "w" ∷ []), ((plain 0 ∷ plain 1 ∷ []), tt)) ∷ []), tt),
              ),
            ),
          ),
        ),
      ) ∷ []),
      (
        ((
          (name
              "T" ∷ []),
          (
            (((plain 0 ∷ []), ((name "A" ∷ []), tt)) ∷ []),
            (
              (name "A" ∷ name "B" ∷ name "C" ∷ []),
              (
                ((
                  (plain 0
                      ∷ plain 1 ∷ plain 1 ∷ plain 0 ∷ []),
                  tt,
                ) ∷ ((plain 2 ∷ plain 1 ∷ plain 0 ∷ plain 1 ∷ []), tt) ∷ []),
                (
                  ((
                    (plain 1
                        ∷ []),
                    ((plain 2 ∷ []), tt),
                  ) ∷ ((plain 2 ∷ []), ([], tt)) ∷ []),
                  tt,
                ),
              ),
            ),
          ),
        ) ∷ []),
        (
          ((
            (name "t" ∷ plain 0 ∷ plain 3
                ∷ plain 70000 ∷ []),
            ((((name "s" ∷ plain 0 ∷ []), tt) ∷ []), tt),
          ) ∷ []),
          (
            (((name "t" ∷ name "A" ∷ []), tt) ∷
                ((name "t" ∷ name "B" ∷ []), tt) ∷ []),
            (
              (([], ((plain 0 ∷ plain 1 ∷ []), tt)) ∷ ([], ([], tt)) ∷ []),
              (
                ((
                  (name
                      "c" ∷ []),
                  (
                    ((
                      [],
                      (
                        (((name "S" ∷ []), ((name "b" ∷ name "m" ∷ []), tt)) ∷ []),
                        (
                          ((
                            (name "I" ∷ name "q" ∷ []),
                            tt,
                          ) ∷ []),
                          tt,
                        ),
                      ),
                    ) ∷ []),
                    tt,
                  ),
                ) ∷ []),
                (
                  ((
                    (name "k" ∷ []),
                    (
                      (((name "1" ∷ plain 1 ∷ name "s" ∷ []), tt) ∷ (
                        (name
                            "2" ∷ plain 0 ∷ plain 0 ∷ []),
                        tt,
                      ) ∷ []),
                      tt,
                    ),
                  ) ∷ []),
                  (
                    (Some (
                      (name "GND" ∷ name "G" ∷ name "VCC" ∷ name "P" ∷
                          []),
                      (
                        (((name "S" ∷ name "b" ∷ name "p" ∷ plain 2 ∷ []), tt) ∷ []),
                        (
                          (((name "t" ∷ name "C" ∷ plain 1 ∷ []), tt)
                              ∷ []),
                          tt,
                        ),
                      ),
                    )),
                    (
                      (
                        [],
                        (
                          ((
                            (plain 1 ∷ []),
                            (
                              (codes "LUT2"),
                              (
                                ((codes "I0") ∷ (codes "I1") ∷ []),
                                (
                                  (codes "INIT"),
                                  tt,
                                ),
                              ),
                            ),
                          ) ∷ []),
                          (
                            ((
                              [],
                              (
                                (codes "S"),
                                (
                                  ((
                                    (plain 4 ∷ []),
                                    (
                                      ((
                                        (plain 0 ∷ plain 3 ∷ []),
                                        (
                                          (codes "b"),
                                          (
                                            ((codes "q") ∷
                                                [] ∷ []),
                                            ((codes "p"), tt),
                                          ),
                                        ),
                                      ) ∷ []),
                                      tt,
                                    ),
                                  ) ∷ []),
                                  tt,
                                ),
                              ),
                            ) ∷ []),
                            tt,
                          ),
                        ),
                      ),
                      tt,
                    ),
                  ),
                ),
              ),
            ),
          ),
        ),
      ),
    ),
  ),
)

-- A device whose root pointer leads to itself.
abbrev pub self_pointer : List ℕ
self_pointer = file_of (0x100000000 ∷ 0x10000fffffffc ∷ [])

-- A design with a name in its string table and nothing else: its top instance has no declaration.
abbrev pub no_declaration : List ℕ
no_declaration = file_of (0x700000000 ∷ 0x4000000000000 ∷ 0 ∷ 0 ∷ 0 ∷ 0xe00000001 ∷ 0x1200000001
    ∷ 0x61 ∷ [])

-- A design of three declarations (one without ports, one with port 0, one with port 1), two ports
-- (0 a bit, 1 a bus of four), three instances (of declarations 1, 2 and 1) and a cell that has the
-- first two, with a net of two port instances, the second with this row: port, bus tag, bit, owner
-- tag, instance.
abbrev pub with_port_instance : List ℕ → Value ℕ netlist
with_port_instance row = (
  [],
  (
    [],
    (
      [],
      (
        ((0 ∷ 0 ∷ []), ([], tt)),
        (
          (((0 ∷ []), ([], tt)) ∷ ((1 ∷ []), ((0 ∷ []), tt)) ∷ ((2 ∷ []), ((1 ∷ []), tt)) ∷ []),
          (
            (((3 ∷ 1 ∷ 0 ∷ 0 ∷ 0 ∷ []), ([], tt)) ∷ ((4 ∷ 0 ∷ 1 ∷ 3 ∷ 0 ∷ []), ([], tt)) ∷ []),
            (
              (((5 ∷ 1 ∷ []), ([], tt)) ∷ ((6 ∷ 2 ∷ []), ([], tt)) ∷ ((7 ∷ 1 ∷ []), ([], tt)) ∷ []),
              (
                ((
                  (0 ∷ []),
                  (
                    (0 ∷ 1 ∷ []),
                    (
                      ((
                        (8 ∷ []),
                        ((((0 ∷ 0 ∷ 0 ∷ 1 ∷ 0 ∷ []), tt) ∷ (row, tt) ∷ []), tt),
                      ) ∷ []),
                      tt,
                    ),
                  ),
                ) ∷ []),
                tt,
              ),
            ),
          ),
        ),
      ),
    ),
  ),
)

-- A net with one source, of this row, and below it a branch of the other: kind, first, second,
-- third, forward.
abbrev pub with_branches : List ℕ → List ℕ → Value ℕ phys_netlist
with_branches row below = (
  [],
  (
    [],
    (
      [],
      (
        (((0 ∷ 0 ∷ []), (branch row (branch below ends ends) ends, (ends, tt))) ∷ []),
        ([], ([], tt)),
      ),
    ),
  ),
)

-- a field of the second struct of its name
abbrev pub second : String → String → Option Item
second kind field = Some (record { kind = codes kind; field = codes field; index = 1 })

-- What the cases of a device change: the row of a BEL, of a site PIP, of a tile, of its site and of
-- a package pin, the pins of a site wire, the row of a PIP, and the wires of a constant source and
-- of a node.
pub record Rows : Type 0 where
  pub bel : List ℕ
  pub site_pip : List ℕ
  pub pins : List ℕ
  pub pip : List ℕ
  pub sources : List ℕ
  pub tile : List ℕ
  pub site : List ℕ
  pub node : List ℕ
  pub package_pin : List ℕ

-- rows of which each fits
abbrev pub fitting : Rows
fitting = record {
  bel = 0 ∷ 2 ∷ 1 ∷ 2 ∷ 1 ∷ [];
  site_pip = 2 ∷ 0 ∷ [];
  pins = 2 ∷ 0 ∷ [];
  pip = 0 ∷ 1 ∷ 0 ∷ 0 ∷ [];
  sources = 1 ∷ [];
  tile = 0 ∷ 1 ∷ 9 ∷ 9 ∷ [];
  site = 1 ∷ 0 ∷ [];
  node = 0 ∷ [];
  package_pin = 0 ∷ 1 ∷ 1 ∷ [];
}

-- A device of two strings with two site types (0 with one BEL pin, 1 with three, and with the BEL,
-- the site PIP and the site wire), two tile types (0 with no site types and three wires, 1 with one
-- site type and two wires, and with the PIP and the constant source), a tile with a site, a wire, a
-- node and a package with a pin.
abbrev pub with_rows : Rows → Value ℕ device
with_rows rows = (
  [],
  (
    [],
    (
      (((0 ∷ []), ((((0 ∷ 0 ∷ 0 ∷ []), tt) ∷ []), ([], ([], ([], ([], tt)))))) ∷ (
        (1 ∷ []),
        (
          (((0 ∷ 0 ∷ 0 ∷ []), tt) ∷ ((0 ∷ 1 ∷ 0 ∷ []), tt) ∷ ((0 ∷ 2 ∷ 0 ∷ []), tt)
              ∷ []),
          (
            (((0 ∷ 0 ∷ 2 ∷ []), tt) ∷ []),
            (
              ((rows.bel, tt) ∷ []),
              (
                ((rows.site_pip, tt) ∷ []),
                ((((1 ∷ []), (rows.pins, tt)) ∷ []), tt),
              ),
            ),
          ),
        ),
      ) ∷ []),
      (
        (((0 ∷ []), ([], ((0 ∷ 1 ∷ 1 ∷ []), ([], ([], tt))))) ∷ (
          (0 ∷ []),
          (
            (((1 ∷ []), ([], tt)) ∷ []),
            (
              (0 ∷ 1 ∷ []),
              (
                ((rows.pip, tt) ∷ []),
                ((((2 ∷ []), (rows.sources, tt)) ∷ []), tt),
              ),
            ),
          ),
        ) ∷ []),
        (
          ((rows.tile, (((rows.site, tt) ∷ []), tt)) ∷ []),
          (
            (((0 ∷ 1 ∷ []), tt) ∷ []),
            (
              (([], (rows.node, tt)) ∷ []),
              (
                [],
                (
                  (((0 ∷ []), (((rows.package_pin, tt) ∷ []), tt)) ∷ []),
                  (
                    None,
                    (
                      ([], ([], ([], tt))),
                      tt,
                    ),
                  ),
                ),
              ),
            ),
          ),
        ),
      ),
    ),
  ),
)

-- a field of the first struct of its name
abbrev pub first : String → String → Option Item
first kind field = Some (record { kind = codes kind; field = codes field; index = 0 })
