pub mod ClearTurns
pub mod LocalTurns
pub mod SideValues
pub mod CoordinateOrders
pub mod Forms
pub mod MeetFloors
pub mod LongTurns
pub mod FloorTurns
